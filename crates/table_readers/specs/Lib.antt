pub mod Head
pub mod Strings
pub mod Tables
pub mod Lists
pub mod Flags
pub mod Rules
pub mod Answers
