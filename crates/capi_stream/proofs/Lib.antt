pub mod Parts
pub mod Stored
pub mod Bounds
pub mod Held
pub mod Answer
pub mod Called
