pub mod Fits
pub mod Functions
pub mod Key
pub mod Log
pub mod Schema
pub mod Signing
