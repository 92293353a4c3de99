pub mod Counting
pub mod Given
