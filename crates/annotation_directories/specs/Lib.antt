pub mod Directories
pub mod Answers
pub mod Rules
