pub mod Comparing
pub mod Ordered
pub mod ByUnits
