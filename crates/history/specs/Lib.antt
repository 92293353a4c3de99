pub mod Runs
pub mod Example
pub mod Instances
pub mod Statements
pub mod NextRow
pub mod Corollaries
