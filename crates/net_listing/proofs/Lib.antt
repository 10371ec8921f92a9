pub mod Fronts
pub mod Walks
pub mod Theorems
pub mod Loops
