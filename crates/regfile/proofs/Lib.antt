pub mod Bytes
pub mod Place
pub mod Cut
pub mod Sweep
pub mod Group
