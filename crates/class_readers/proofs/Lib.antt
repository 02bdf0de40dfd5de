pub mod SpotLaws
pub mod Once
