pub mod Costs
pub mod Frames
pub mod Meanings
pub mod Runs
pub mod Steps
