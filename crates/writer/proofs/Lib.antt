pub mod Entries
pub mod Images
pub mod Judged
