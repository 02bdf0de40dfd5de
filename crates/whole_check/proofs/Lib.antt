pub mod Laws
pub mod TableLaws
pub mod Verdicts
