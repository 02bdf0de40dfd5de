pub mod Bytes
pub mod Words
