pub mod Fields
pub mod Inside
pub mod Theorems
