pub mod OneTask
mod OneText
mod Parts
pub mod Stops
