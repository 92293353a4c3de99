pub mod Windows
pub mod Chosen
pub mod Windowed
