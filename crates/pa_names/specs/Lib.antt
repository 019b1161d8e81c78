pub mod Kept
pub mod Key
