mod Linked
mod Straight
mod Accessing
mod Operating
mod Moves
mod Slots
mod Storing
pub mod Steps
pub mod Branching
mod Bytes
mod Keeping
mod Places
mod Comparing
pub mod Giving
mod Contents
mod Showing
pub mod Operations
pub mod Leaving
pub mod Calling
pub mod Comings
pub mod Entering
pub mod Loading
mod Changing
pub mod Stores
pub mod Resuming
mod Parameters
mod Born
pub mod Entries
pub mod Imports
pub mod Units
mod States
pub mod Acting
pub mod Arriving
pub mod Whole
pub mod Starting
