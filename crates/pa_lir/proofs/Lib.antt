mod Above
mod Below
pub mod Growth
mod Placing
mod Rows
pub mod Runs
mod Walking
