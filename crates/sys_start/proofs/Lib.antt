pub mod First
pub mod Tests
pub mod Fills
pub mod Wakes
pub mod Laws
