pub mod Whole
pub mod Records
pub mod Lent
pub mod FromC
pub mod Vendor
pub mod Rooms
