pub mod Read
pub mod Files
pub mod Extent
pub mod Words
pub mod Answers
pub mod Parts
