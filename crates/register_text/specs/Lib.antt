pub mod Escapes
pub mod Numbers
pub mod Wholes
pub mod Answers
