pub mod Kinds
pub mod Sides
pub mod Moves
pub mod Words
