mod Came
mod Failures
pub mod Growth
mod Shifted
