pub mod Tree
pub mod Depth
pub mod Readings
pub mod Rules
pub mod Answers
pub mod Stages
