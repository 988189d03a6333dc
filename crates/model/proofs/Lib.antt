pub mod Cases
pub mod Bodies
pub mod Sons
pub mod Totals
pub mod Monotone
pub mod Rounds
pub mod Reach
pub mod Pinned
