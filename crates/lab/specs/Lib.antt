pub mod Lab
pub mod Uncorrected
