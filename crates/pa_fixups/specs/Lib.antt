pub mod Chain
pub mod Fixups
pub mod Slots
