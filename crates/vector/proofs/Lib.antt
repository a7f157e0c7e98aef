pub mod Segments
pub mod Spread
