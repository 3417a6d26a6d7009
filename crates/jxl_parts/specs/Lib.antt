pub mod Joined
pub mod Theorems
