pub mod Scan
pub mod Values
pub mod Meaning
pub mod Shown
pub mod Proposed
