pub mod Search
pub mod Plan
pub mod Apply
pub mod Commit
pub mod Opened
