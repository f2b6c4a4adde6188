pub mod Sums
pub mod Places
pub mod Kept
pub mod Lines
