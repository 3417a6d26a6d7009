pub mod Counting
pub mod Unique
