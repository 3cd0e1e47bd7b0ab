pub mod Entries
pub mod Gives
