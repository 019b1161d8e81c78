mod Attributes
mod Unchanged
mod Sound
mod Invariant
mod Steps
mod Classes
mod Runs
mod Locals
mod Checked
mod Lists
mod Located
mod Pair
mod Runtime
pub mod Begun
