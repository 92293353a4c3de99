pub mod Asked
pub mod Meeting
