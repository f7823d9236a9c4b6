pub mod Limits
pub mod Cash
pub mod Listings
