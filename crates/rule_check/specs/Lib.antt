pub mod Checking
pub mod Fields
pub mod Uris
pub mod WellFormed
