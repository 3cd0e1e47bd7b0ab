pub mod Endings
pub mod Judging
pub mod Rooms
pub mod Seen
pub mod Taking
