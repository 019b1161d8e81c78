pub mod Stub
pub mod Calls
pub mod Whole
pub mod Fits
pub mod Legal
pub mod Areas
pub mod Slot
pub mod Begun
