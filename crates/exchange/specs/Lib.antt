pub mod Exchange
pub mod Stages
