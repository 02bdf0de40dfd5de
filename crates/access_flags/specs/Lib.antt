pub mod Flags
pub mod Rules
pub mod Answers
