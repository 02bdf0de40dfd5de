pub mod Numbers
pub mod Exactly
pub mod Laws
pub mod Once
