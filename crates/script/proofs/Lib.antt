pub mod BookWord
pub mod FirstWord
pub mod Parts
pub mod Saying
pub mod Spaces
