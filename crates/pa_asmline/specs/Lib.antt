pub mod Every
pub mod Instructions
pub mod Lines
pub mod Operands
pub mod Reading
pub mod Rows
pub mod Shapes
