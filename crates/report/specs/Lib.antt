pub mod Decimal
pub mod Lines
pub mod Stored
pub mod Answers
pub mod Rows
