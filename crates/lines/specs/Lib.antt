pub mod Measured
pub mod Standings
pub mod Spoken
