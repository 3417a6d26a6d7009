pub mod Digits
pub mod Lines
pub mod Pasting
pub mod Putting
pub mod Theorems
