pub mod Debug
pub mod Answers
