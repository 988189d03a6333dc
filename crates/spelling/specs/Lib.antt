pub mod Fields
pub mod Spelled
pub mod Spoken
