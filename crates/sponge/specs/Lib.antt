pub mod Book
pub mod Remaining
