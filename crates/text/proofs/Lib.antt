pub mod Shapes
pub mod Exactly
pub mod Laws
pub mod Once
