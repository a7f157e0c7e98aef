pub mod Contents
pub mod Prefix
pub mod Compared
pub mod Pieces
pub mod Sizes
pub mod Returned
pub mod Written
pub mod Recorded
-- a trace in pieces
pub mod Due
pub mod Live
pub mod Byte
pub mod Calls
pub mod Streamed
pub mod Few
pub mod Place
