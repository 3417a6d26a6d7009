pub mod Closed
pub mod Counting
pub mod Lawful
pub mod Laws
pub mod Marks
pub mod Pieces
pub mod Taking
pub mod Unique
