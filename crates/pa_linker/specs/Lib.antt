pub mod Imports
pub mod Layout
pub mod Linked
pub mod Tables
