pub mod Fixed
pub mod Offsets
pub mod Answers
pub mod Rules
