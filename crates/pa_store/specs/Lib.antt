pub mod Found
pub mod Objects
pub mod Operands
pub mod Pointers
pub mod Store
pub mod Views
