pub mod App
pub mod AppLaws
pub mod Digits
pub mod FaultWords
pub mod Laws
pub mod Number
