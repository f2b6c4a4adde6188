pub mod Limits
pub mod Sums
pub mod Proposed
pub mod Checks
pub mod Rules
pub mod Sizes
pub mod Made
