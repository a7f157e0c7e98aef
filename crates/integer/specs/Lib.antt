pub mod Number
pub mod Lane
