pub mod Refusal
pub mod Early
