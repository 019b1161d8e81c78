pub mod AllFit
pub mod Cuts
pub mod ItemLaws
pub mod Longer
pub mod NextLine
pub mod Numbers
pub mod Pushes
pub mod Settled
