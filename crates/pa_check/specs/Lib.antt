pub mod Rows
pub mod Text
pub mod Windows
pub mod Rules
pub mod Slots
pub mod Windowed
pub mod Passing
