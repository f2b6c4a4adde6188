pub mod Meaning
pub mod Shake
