pub mod Bodies
pub mod DeclaratorParts
pub mod ListHeights
pub mod Qualifiers
pub mod SameSpecs
pub mod Voids
pub mod Words
