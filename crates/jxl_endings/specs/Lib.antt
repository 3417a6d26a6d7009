pub mod End
pub mod Laws
pub mod Ended
pub mod Theorems
