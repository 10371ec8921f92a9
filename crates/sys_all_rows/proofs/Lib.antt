pub mod Places
pub mod Moves
pub mod Opens
pub mod Lays
pub mod One
