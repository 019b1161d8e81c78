pub mod Costs
pub mod Lengths
mod Linking
mod Others
mod Passes
mod Ranges
mod Selectable
