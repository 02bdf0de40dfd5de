pub mod Covering
pub mod Code
pub mod Answers
