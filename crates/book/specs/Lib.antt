pub mod Slips
pub mod Acts
