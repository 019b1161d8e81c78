pub mod Literals
pub mod Spellings
