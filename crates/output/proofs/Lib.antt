pub mod Lengths
pub mod Overlay
pub mod Putting
pub mod Rooms
pub mod Sealing
