pub mod Index
pub mod Recorded
