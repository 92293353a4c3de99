pub mod Tests
pub mod Early
