pub mod Arithmetic
pub mod Bits
