pub mod Rounding
pub mod RoundingLaws
pub mod Symbols
pub mod Worked
