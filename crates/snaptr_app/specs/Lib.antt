pub mod App
pub mod AppLaws
pub mod Domain
pub mod FaultWords
pub mod Laws
