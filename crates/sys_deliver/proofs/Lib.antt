pub mod Heard
pub mod Chosen
pub mod Passed
