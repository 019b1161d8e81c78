pub mod Layout
pub mod Loader
pub mod Reading
pub mod Writing
