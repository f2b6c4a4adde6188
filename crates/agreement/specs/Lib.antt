pub mod Runs
pub mod Agreement
