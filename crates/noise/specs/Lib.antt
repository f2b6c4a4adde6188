pub mod Bounds
pub mod AnyProduct
pub mod Ends
pub mod Laws
pub mod Worked
