mod Blocks
pub mod Laws
mod Output
mod Xor
