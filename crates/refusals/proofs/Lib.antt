pub mod Parts
pub mod Positions
pub mod Finding
pub mod Offsets
pub mod Accepted
