mod Scale
mod Reading
mod Sizes
pub mod AnyProduct
mod Places
mod Counts
pub mod Laws
pub mod Worked
