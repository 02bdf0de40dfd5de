pub mod Data
pub mod Rules
pub mod Answers
