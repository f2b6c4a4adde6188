pub mod Parts
pub mod KeyLaws
pub mod ParcelLaws
