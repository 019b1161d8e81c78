pub mod Answers
pub mod Numbered
pub mod Scope
pub mod Scopes
