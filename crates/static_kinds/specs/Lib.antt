pub mod Kinds
pub mod Rules
