pub mod FileKind
pub mod Theorems
