pub mod Leb
pub mod Rules
pub mod Answers
