pub mod Items
pub mod Pieces
pub mod Rules
pub mod Spelled
