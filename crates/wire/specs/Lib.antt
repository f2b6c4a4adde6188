pub mod Faults
pub mod Keys
pub mod Parcels
pub mod Trips
