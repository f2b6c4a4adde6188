-- What expanding a seed makes of the book's list.
pub mod Values
pub mod Positions
pub mod Expanded
pub mod Facts
