pub mod Costs
pub mod Rows
pub mod Runs
pub mod Statements
pub mod Values
