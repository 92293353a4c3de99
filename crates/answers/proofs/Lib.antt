pub mod Changing
pub mod Stepping
