pub mod Answering
pub mod Drafting
pub mod Laws
pub mod Loops
pub mod Ready
pub mod Sizes
