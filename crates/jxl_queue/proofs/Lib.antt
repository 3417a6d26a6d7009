pub mod Unique
pub mod Room
