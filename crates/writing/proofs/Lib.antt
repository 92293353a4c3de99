pub mod Exchanging
pub mod Booking
