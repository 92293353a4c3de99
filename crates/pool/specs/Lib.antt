pub mod Chains
pub mod Whole
pub mod Changes
pub mod Opening
pub mod Ends
pub mod Free
