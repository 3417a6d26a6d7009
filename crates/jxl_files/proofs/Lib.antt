pub mod Counts
pub mod Limit
pub mod Listed
pub mod Theorems
