pub mod Codes
pub mod Exactly
pub mod Laws
pub mod Once
