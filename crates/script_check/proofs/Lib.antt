pub mod Actions
pub mod Whole
pub mod Says
