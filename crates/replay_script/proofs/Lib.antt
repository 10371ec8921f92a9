pub mod Laws
pub mod Long
