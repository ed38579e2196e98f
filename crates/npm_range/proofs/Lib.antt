pub mod Alternatives
pub mod Operators
pub mod Pieces
pub mod Readings
pub mod Uniqueness
