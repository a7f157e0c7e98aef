pub mod Place
pub mod Bytes
pub mod Sweep
pub mod Group
