pub mod Chains
pub mod Uses
pub mod Words
