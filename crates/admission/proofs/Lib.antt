pub mod Admitting
pub mod Cutting
