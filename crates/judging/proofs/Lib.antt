pub mod Planning
pub mod Verdicts
pub mod Adding
pub mod Removing
