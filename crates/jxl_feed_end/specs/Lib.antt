pub mod Ended
pub mod Theorems
