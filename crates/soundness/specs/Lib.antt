pub mod Fitting
pub mod Checking
pub mod State
pub mod ReadThrough
