pub mod Impossible
pub mod Theorems
