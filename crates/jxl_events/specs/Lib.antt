pub mod Event
pub mod Total
pub mod Theorems
