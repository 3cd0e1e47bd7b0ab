pub mod Words
pub mod Places
pub mod Told
pub mod Puts
pub mod Fetches
pub mod Older
