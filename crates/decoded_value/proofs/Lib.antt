pub mod Signs
pub mod Floats
pub mod Laws
pub mod Once
