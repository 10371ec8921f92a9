pub mod Readings
pub mod Loops
pub mod Kept
pub mod Changed
pub mod Says
pub mod Lists
