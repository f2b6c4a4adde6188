pub mod Powers
pub mod Cuts
pub mod Errors
pub mod Sizes
pub mod Listed
pub mod Worked
pub mod Below
