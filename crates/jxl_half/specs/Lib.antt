pub mod Half
pub mod Widen
pub mod Theorems
