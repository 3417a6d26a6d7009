pub mod Joiner
pub mod Theorems
