pub mod Reading
pub mod Refusals
pub mod Status
pub mod Texts
