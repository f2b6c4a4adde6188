-- How the sampler steps, and the laws of what it makes.
mod Drawn
mod Table
mod First
pub mod Laws
