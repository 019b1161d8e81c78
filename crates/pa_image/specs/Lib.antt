pub mod Bytes
pub mod Known
pub mod Pal
pub mod Places
pub mod Reading
pub mod Small
pub mod Writing
