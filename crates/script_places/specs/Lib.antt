pub mod Views
pub mod Says
