pub mod Stored
pub mod Tables
pub mod Opening
pub mod Stays
pub mod Lent
