pub mod Choices
pub mod ChunkLaws
pub mod Lists
pub mod Halves
pub mod Unique
