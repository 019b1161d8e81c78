pub mod Worlds
pub mod Values
pub mod Calls
pub mod Runs
pub mod Whole
pub mod Start
