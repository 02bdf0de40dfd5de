pub mod Members
pub mod Rules
pub mod Answers
