pub mod Laws
pub mod Apart
