pub mod Sip
pub mod Discriminator
