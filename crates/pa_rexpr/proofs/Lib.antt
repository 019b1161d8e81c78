pub mod Computing
pub mod Exact
mod RowsPlaces
mod RowsValues
pub mod Sample
pub mod Spelled
