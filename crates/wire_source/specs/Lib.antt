pub mod FaultWords
pub mod Laws
pub mod Queries
pub mod Readings
pub mod Sorting
pub mod Tries
