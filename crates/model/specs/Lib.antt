pub mod Letters
pub mod Rules
pub mod Formed
pub mod Least
pub mod Facts
pub mod Pins
