pub mod Hashing
pub mod Knowing
pub mod Seen
