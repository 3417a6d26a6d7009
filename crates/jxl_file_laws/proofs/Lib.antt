pub mod Joining
pub mod KindLaws
