pub mod Tables
pub mod Ramps
pub mod Joins
pub mod Pins
