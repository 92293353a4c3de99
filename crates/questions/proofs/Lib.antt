pub mod Replies
pub mod Following
pub mod Nearing
pub mod Reading
pub mod Finding
pub mod Answers
pub mod Marking
