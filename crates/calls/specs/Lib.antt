pub mod Refusals
pub mod Calls
pub mod Changes
pub mod Questions
pub mod Numbers
pub mod Steps
pub mod Lent
