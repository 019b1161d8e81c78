pub mod Made
pub mod Input
