pub mod Cutting
pub mod Behind
pub mod Running
