pub mod Running
pub mod Items
pub mod Kept
