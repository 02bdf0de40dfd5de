pub mod Exactly
pub mod Laws
pub mod Stages
pub mod Once
