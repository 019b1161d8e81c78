pub mod TypesIn
