pub mod Answers
pub mod Labels
pub mod Parts
pub mod Reading
pub mod Settled
pub mod Written
