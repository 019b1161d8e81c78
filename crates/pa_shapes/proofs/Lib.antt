pub mod Shapes
pub mod TypesIn
pub mod Weights
