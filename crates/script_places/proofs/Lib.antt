pub mod Laws
pub mod Says
