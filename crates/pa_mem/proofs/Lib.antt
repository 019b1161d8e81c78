pub mod Apart
pub mod Bytes
pub mod Fetches
pub mod Found
pub mod Numbers
pub mod Ranges
pub mod Runs
