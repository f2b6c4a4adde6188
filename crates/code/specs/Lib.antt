pub mod Words
pub mod Correcting
pub mod Compared
