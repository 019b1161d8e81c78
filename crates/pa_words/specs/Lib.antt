pub mod Answers
pub mod Fields
pub mod Names
pub mod Reading
pub mod Usage
pub mod Values
