pub mod Tests
pub mod Member
pub mod Count
pub mod Sum
pub mod Times
pub mod Place
pub mod Rising
pub mod Over
