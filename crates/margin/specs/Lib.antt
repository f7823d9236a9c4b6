pub mod Limits
pub mod Rules
pub mod Rounding
pub mod Standard
pub mod Flat
pub mod AddOn
pub mod Making
pub mod Laws
