pub mod Moving
pub mod Asking
pub mod Clearing
pub mod Exchanging
pub mod Answering
