pub mod Tally
pub mod Gather
pub mod Count
