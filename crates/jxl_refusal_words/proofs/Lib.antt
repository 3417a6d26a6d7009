pub mod Sizes
pub mod Different
