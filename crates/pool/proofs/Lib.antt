pub mod Chains
pub mod Whole
pub mod Apart
pub mod Closed
pub mod Changes
pub mod Runs
pub mod Counting
pub mod Opening
