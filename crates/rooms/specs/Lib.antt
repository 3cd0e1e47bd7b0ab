pub mod Answers
pub mod Calls
pub mod File
pub mod Find
pub mod Grammar
