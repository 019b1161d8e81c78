pub mod Keeping
pub mod Regions
pub mod Room
pub mod Runs
pub mod Walks
