pub mod Header
pub mod Unique
pub mod And
