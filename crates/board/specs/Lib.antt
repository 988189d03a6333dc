pub mod Values
pub mod Telling
pub mod Advances
pub mod Indexed
pub mod Flags
pub mod Answers
pub mod Replays
pub mod Misplaced
