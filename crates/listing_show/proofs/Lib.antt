pub mod Asking
pub mod Showing
