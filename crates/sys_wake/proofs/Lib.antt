pub mod Loads
pub mod Wakes
