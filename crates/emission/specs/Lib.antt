pub mod Plans
pub mod Walks
pub mod Emit
