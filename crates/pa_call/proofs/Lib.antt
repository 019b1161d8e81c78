pub mod Calling
pub mod Laws
pub mod Nodes
pub mod Passed
