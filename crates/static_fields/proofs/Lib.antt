pub mod Exactly
pub mod TextLaws
pub mod PairLaws
pub mod KindLaws
pub mod Once
