pub mod Operation
pub mod Words
