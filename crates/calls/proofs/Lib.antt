pub mod Choices
pub mod Refusals
pub mod Numbers
pub mod Changes
pub mod Order
pub mod Steps
pub mod Exchanges
pub mod Openings
