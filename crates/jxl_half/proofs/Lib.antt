pub mod Halves
pub mod Unique
