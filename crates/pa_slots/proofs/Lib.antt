pub mod Beside
pub mod Chains
pub mod Fits
pub mod Held
pub mod Pages
pub mod Whole
