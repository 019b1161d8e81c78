pub mod Forms
pub mod Computing
pub mod Held
pub mod HeldInAll
pub mod Rows
