pub mod Bodies
pub mod Completing
pub mod Declaring
pub mod Numbered
pub mod Opening
