pub mod Standing
pub mod Wiped
pub mod Committing
pub mod WritingParents
pub mod Written
pub mod Reporting
pub mod Gathering
pub mod Beside
