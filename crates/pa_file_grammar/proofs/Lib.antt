pub mod Answers
pub mod Complete
pub mod Deeper
pub mod LocalReading
pub mod Sound
pub mod Turns
