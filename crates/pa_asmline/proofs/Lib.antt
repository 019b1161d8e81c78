pub mod Apart
pub mod Every
pub mod Numbers
pub mod Rows
pub mod Spelled
pub mod Table
pub mod Texts
pub mod Whole
