pub mod Distinct
pub mod Found
pub mod Laws
pub mod Only
pub mod Placed
pub mod Steps
pub mod Whole
