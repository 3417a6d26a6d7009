mod Counting
pub mod Unique
