pub mod Tries
pub mod Code
pub mod Rules
pub mod Answers
