pub mod Counts
pub mod Typed
pub mod Units
pub mod Views
