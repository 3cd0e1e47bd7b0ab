pub mod Cutting
pub mod Joining
pub mod Making
pub mod Matching
pub mod Taking
