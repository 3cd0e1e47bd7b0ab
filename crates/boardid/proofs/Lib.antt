pub mod Filling
pub mod Giving
pub mod Vendor
