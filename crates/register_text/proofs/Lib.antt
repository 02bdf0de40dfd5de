pub mod Laws
pub mod NumberLaws
pub mod WholeLaws
pub mod OneToOne
pub mod Once
