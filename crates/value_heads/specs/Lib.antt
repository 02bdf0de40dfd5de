pub mod Kinds
pub mod Numbers
pub mod Readings
pub mod Rules
pub mod Answers
