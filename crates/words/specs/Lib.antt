pub mod Cuts
pub mod Keywords
pub mod Numbers
pub mod Reasons
pub mod Slips
pub mod Words
