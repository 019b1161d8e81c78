pub mod Rows
pub mod Kept
pub mod Images
pub mod Secure
