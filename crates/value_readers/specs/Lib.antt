pub mod Opening
pub mod Bodies
pub mod Items
pub mod Statics
pub mod Answers
