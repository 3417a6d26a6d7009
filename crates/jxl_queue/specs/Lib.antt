pub mod Queue
pub mod Theorems
