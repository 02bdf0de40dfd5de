pub mod Weights
pub mod Exactly
pub mod Laws
pub mod Once
