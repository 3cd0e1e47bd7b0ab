pub mod Packed
pub mod Words
pub mod Exports
