pub mod Legal
