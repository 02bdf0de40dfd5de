pub mod TypeList
pub mod Below
pub mod Rules
pub mod Answers
