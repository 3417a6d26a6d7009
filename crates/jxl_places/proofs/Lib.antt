pub mod OnePlace
pub mod Places
pub mod Stands
