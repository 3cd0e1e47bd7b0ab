pub mod Answers
pub mod Here
