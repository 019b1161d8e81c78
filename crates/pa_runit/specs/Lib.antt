pub mod Bodies
pub mod Headers
pub mod Initializers
pub mod Statements
pub mod Units
