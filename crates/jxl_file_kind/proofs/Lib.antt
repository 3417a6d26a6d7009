mod FirstStep
pub mod Unique
