pub mod RoundTrip
pub mod Rows
pub mod TwosComplement
pub mod Words
