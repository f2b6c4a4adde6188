-- What a byte source's calls mean.
pub mod Draws
