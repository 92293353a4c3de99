pub mod Stored
pub mod Tables
pub mod Opening
pub mod Stays
pub mod Revised
pub mod Reading
pub mod Lent
