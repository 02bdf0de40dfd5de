pub mod Codes
pub mod Map
pub mod Answers
pub mod Rules
