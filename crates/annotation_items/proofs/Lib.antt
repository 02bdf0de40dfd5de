pub mod Exactly
pub mod Laws
pub mod Once
pub mod Kth
