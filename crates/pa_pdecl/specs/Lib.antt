pub mod Nests
pub mod Parsed
pub mod Rules
