pub mod File
pub mod Passes
