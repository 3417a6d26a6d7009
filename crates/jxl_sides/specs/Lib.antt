pub mod Sides
pub mod Telling
pub mod Theorems
