pub mod Bytes
pub mod Signature
pub mod Theorems
