pub mod Objects
pub mod Results
pub mod Calls
pub mod Simulates
