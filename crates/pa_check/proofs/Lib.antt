pub mod Flaws
pub mod Legal
pub mod Lists
pub mod Passes
pub mod Settled
pub mod Words
