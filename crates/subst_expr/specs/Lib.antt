pub mod Laws
pub mod Output
pub mod Pieces
pub mod Regexp
pub mod Replacement
pub mod Scans
pub mod Split
