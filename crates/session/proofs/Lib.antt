pub mod Cashing
pub mod Listing
