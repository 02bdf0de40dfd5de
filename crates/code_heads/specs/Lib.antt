pub mod Heads
pub mod Rules
pub mod Answers
