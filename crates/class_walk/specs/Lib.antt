pub mod Methods
pub mod Classes
pub mod Rules
pub mod Answers
