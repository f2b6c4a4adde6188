pub mod Told
pub mod Origin
pub mod Places
pub mod Facts
pub mod Gauged
pub mod Exported
