mod Answered
mod Causes
mod OneAnswer
mod Stops
