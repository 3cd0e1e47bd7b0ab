pub mod Loops
pub mod Tests
pub mod Seal
