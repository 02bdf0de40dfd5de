pub mod Code
pub mod Answers
