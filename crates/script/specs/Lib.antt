pub mod Commands
pub mod Lines
pub mod Places
pub mod Readings
pub mod Shapes
