pub mod Once
pub mod Decimals
pub mod Laws
