pub mod Regions
pub mod Planned
pub mod Parts
pub mod Layout
