pub mod Commands
pub mod Holding
pub mod Keys
pub mod Laws
