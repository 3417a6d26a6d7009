pub mod Part
pub mod Theorems
