pub mod Files
pub mod Theorems
