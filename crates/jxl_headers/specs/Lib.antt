pub mod Bytes
pub mod Types
pub mod Header
pub mod Theorems
