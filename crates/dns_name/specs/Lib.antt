pub mod FaultWords
pub mod Laws
pub mod Name
pub mod Reading
pub mod Targets
pub mod Fields
pub mod Text
pub mod Wire
