pub mod Regions
pub mod Planned
pub mod Starts
pub mod Written
