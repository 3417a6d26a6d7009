pub mod Bytes
pub mod Which
pub mod Unique
