pub mod Merging
pub mod Telling
pub mod Unique
