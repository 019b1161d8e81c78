pub mod Answers
pub mod Exports
pub mod Filling
pub mod Loaded
pub mod Mapping
pub mod Ready
