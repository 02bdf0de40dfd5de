pub mod Spots
pub mod Members
pub mod Answers
