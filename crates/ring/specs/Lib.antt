pub mod GroupLaws
pub mod Words
pub mod Lists
pub mod Cyclic
pub mod Congruence
pub mod RingLaws
pub mod Worked
