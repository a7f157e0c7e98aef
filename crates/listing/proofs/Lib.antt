pub mod WithText
pub mod Tests
pub mod Lines
pub mod Decimal
pub mod Parts
pub mod Pieces
