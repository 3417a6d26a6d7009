pub mod Step
pub mod Naming
pub mod Parser
pub mod Feeding
pub mod Laws
pub mod Pieces
