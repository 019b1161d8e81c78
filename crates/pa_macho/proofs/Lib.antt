pub mod Facts
pub mod Fits
pub mod Front
pub mod Headers
pub mod Laws
mod Names
