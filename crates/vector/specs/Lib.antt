pub mod Works
pub mod Spread
