pub mod Pairing
pub mod Rules
pub mod Answers
pub mod Stages
