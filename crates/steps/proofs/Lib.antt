pub mod Cut
pub mod Lifting
pub mod Lifted
pub mod Whole
pub mod Grading
