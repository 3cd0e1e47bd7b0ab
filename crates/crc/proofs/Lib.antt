pub mod ByTable
pub mod Cases
pub mod Loop
pub mod Mirror
pub mod SingleBit
pub mod Table
pub mod Tables
pub mod Xor
