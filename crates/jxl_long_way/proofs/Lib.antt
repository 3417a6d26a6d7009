mod Putting
pub mod Going
