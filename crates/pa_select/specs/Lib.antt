pub mod Registers
pub mod Accesses
pub mod Constants
pub mod Others
pub mod Computing
pub mod Selected
pub mod Selectable
pub mod Objects
