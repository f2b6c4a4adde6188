pub mod Scheme
