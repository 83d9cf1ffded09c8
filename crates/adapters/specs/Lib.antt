pub mod Kept
pub mod Saying
