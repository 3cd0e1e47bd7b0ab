pub mod Answers
pub mod Here
pub mod Walk
