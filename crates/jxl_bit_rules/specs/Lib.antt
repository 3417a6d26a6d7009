pub mod Answer
pub mod Refusals
pub mod Told
pub mod Bits
pub mod Readers
pub mod Theorems
