pub mod Bodies
pub mod Counted
pub mod Lists
pub mod Rules
pub mod Suffixes
pub mod Voids
