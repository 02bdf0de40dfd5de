pub mod Strings
pub mod Rules
pub mod Answers
