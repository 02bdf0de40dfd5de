pub mod Picks
pub mod Laws
pub mod Kth
pub mod Once
