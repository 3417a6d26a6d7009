mod Taking
pub mod Unique
pub mod Ruled
