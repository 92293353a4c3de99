pub mod Plans
pub mod Left
pub mod Walks
pub mod Clearing
pub mod Turning
pub mod Planning
pub mod Emitting
