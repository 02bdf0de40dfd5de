pub mod Units
pub mod Text
pub mod Rules
pub mod Answers
pub mod Singles
