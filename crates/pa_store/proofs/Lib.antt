pub mod Going
pub mod Keeping
pub mod Naming
pub mod Storing
pub mod Within
