pub mod Answers
pub mod Offset
pub mod Payload
pub mod Vendor
