pub mod Fields
pub mod Scanning
pub mod Judging
pub mod Boards
pub mod Laying
pub mod Opening
pub mod Calling
