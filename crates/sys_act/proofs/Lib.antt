pub mod Acts
pub mod Crashed
