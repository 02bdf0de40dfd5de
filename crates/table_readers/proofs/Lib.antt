pub mod Exactly
pub mod HeadLaws
pub mod StringLaws
pub mod TableLaws
pub mod ListLaws
pub mod FlagLaws
pub mod Once
