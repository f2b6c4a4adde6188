pub mod Bits
pub mod Packing
pub mod Places
pub mod Trips
