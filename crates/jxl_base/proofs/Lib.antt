pub mod OneAnswer
pub mod Never
