pub mod End
pub mod Step
pub mod Laws
pub mod Grammar
pub mod Naming
pub mod Parser
pub mod Feeding
pub mod Theorems
