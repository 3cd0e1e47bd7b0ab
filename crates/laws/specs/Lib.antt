pub mod Contents
pub mod Grammar
pub mod Marked
pub mod Passes
