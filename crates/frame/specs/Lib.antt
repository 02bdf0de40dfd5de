pub mod Offsets
pub mod Counted
