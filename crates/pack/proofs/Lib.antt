pub mod Runs
pub mod Steps
pub mod Fills
pub mod Laws
