pub mod Applications
pub mod FaultWords
pub mod Faults
pub mod Fitting
pub mod Laws
pub mod Services
pub mod Tags
pub mod Wanted
