mod Accepted
mod AcceptedBodies
pub mod Computing
pub mod Order
mod RefusalsConstants
mod RefusalsNames
mod RefusalsRest
mod RefusalsTypes
mod Units
