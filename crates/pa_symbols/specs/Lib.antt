pub mod Legal
pub mod Names
pub mod Reading
pub mod Symbols
