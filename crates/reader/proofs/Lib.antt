pub mod Reading
pub mod Column
