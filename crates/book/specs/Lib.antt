pub mod Book
pub mod Records
pub mod Walks
pub mod Entries
pub mod Tally
pub mod Views
