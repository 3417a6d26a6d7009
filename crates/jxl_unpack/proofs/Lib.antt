pub mod Unpack
pub mod Unique
