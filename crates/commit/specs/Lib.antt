pub mod Writes
pub mod Passes
pub mod Report
pub mod Gather
