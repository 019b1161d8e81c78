pub mod Answers
pub mod Exit
pub mod Host
pub mod Lines
pub mod Printed
pub mod Runs
