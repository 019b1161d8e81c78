pub mod Measures
pub mod Nests
pub mod Nonterminals
pub mod Trees
