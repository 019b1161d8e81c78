pub mod Known
pub mod Stores
