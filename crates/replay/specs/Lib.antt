-- Inner: what the code's functions say to each other. No claim rests on these: the contracts of `check` and `judge` cite crate trace alone.
pub mod Read
pub mod Extent
pub mod Body
