pub mod CheckLaws
pub mod Facts
pub mod Laws
pub mod NameLaws
pub mod Pieces
pub mod Pushed
