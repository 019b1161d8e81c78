mod Answering
pub mod Bodies
mod Cells
mod Constants
mod Depth
mod Examples
mod Extents
mod Finding
pub mod Forms
pub mod Functions
mod Growth
mod Joining
mod Keeping
mod KeptGrowth
mod KindLaws
pub mod Laws
pub mod Laying
mod NodeTable
pub mod Objects
mod RaisedLaws
pub mod Results
mod Sameness
mod TypeLaws
