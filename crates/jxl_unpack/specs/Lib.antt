pub mod UnpackSigned
pub mod Theorems
