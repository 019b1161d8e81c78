pub mod Advanced
pub mod Input
pub mod Loaded
pub mod Made
pub mod Unread
