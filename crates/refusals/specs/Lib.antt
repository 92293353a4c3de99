pub mod Parts
pub mod Found
pub mod Offsets
