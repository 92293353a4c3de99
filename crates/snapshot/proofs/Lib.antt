pub mod Kept
pub mod Keeping
pub mod Returning
