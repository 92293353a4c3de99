pub mod Continuing
pub mod Checked
