pub mod Laws
pub mod Once
