pub mod Filling
pub mod Giving
