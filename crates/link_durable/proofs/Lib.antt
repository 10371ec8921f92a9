pub mod Containers
pub mod Kept
pub mod Tests
