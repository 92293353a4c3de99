pub mod Asking
pub mod Openings
pub mod Using
