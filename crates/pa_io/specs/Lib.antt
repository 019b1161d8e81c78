pub mod Answer
pub mod Calls
pub mod Files
pub mod Memory
pub mod Outside
