pub mod Leaves
pub mod Cycle
pub mod Layers
pub mod Exactly
pub mod Bounds
pub mod Nested
pub mod Once
pub mod Limit
