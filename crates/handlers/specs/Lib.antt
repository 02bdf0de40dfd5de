pub mod Handlers
pub mod Rules
pub mod Answers
