pub mod Fed
pub mod Theorems
