pub mod Debug
pub mod Rules
pub mod Answers
