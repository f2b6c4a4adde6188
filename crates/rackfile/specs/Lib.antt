pub mod Words
pub mod Places
pub mod Format
pub mod Sets
pub mod Shown
