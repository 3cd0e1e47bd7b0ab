pub mod Adding
pub mod Changes
pub mod Cutting
pub mod Splicing
