pub mod Numbers
pub mod Order
pub mod Parts
pub mod Readers
pub mod Unique
