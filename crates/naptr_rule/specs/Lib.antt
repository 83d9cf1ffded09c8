pub mod Bare
pub mod BareReading
pub mod Fields
pub mod Laws
pub mod Rank
pub mod Rdata
pub mod Text
