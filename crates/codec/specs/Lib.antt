pub mod Pair
pub mod Base
