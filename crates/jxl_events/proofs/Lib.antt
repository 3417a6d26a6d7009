pub mod Shifted
pub mod Unique
