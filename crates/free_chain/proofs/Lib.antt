pub mod Counted
pub mod Leading
pub mod Walking
pub mod Stepping
pub mod Rounding
pub mod Adding
pub mod Laying
pub mod Reaching
