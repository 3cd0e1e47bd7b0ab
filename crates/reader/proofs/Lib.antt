pub mod Finding
pub mod Lying
pub mod Rooms
pub mod Strings
