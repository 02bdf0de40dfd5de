pub mod Questions
pub mod Turns
pub mod Lines
