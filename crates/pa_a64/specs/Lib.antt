pub mod Decoding
pub mod Parts
pub mod Table
