pub mod Below
pub mod Rules
