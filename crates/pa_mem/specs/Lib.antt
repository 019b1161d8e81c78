pub mod Access
pub mod Extents
pub mod Memory
pub mod Place
