pub mod Answers
pub mod Boards
pub mod Laying
pub mod Rows
