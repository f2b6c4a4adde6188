pub mod Chains
pub mod Areas
pub mod Numbers
