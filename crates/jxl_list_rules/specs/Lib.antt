pub mod Listed
pub mod Turned
pub mod Row
pub mod Way
pub mod Theorems
