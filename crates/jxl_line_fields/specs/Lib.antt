pub mod Fields
pub mod Theorems
