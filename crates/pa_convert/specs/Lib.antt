pub mod Conversions
pub mod Forms
pub mod Grows
pub mod Kinds
