pub mod Lines
pub mod Changes
pub mod Answering
