pub mod Tallies
pub mod Numbers
pub mod Linking
pub mod Gathering
pub mod Children
pub mod Starting
pub mod Given
