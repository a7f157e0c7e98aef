pub mod Chosen
pub mod InPlace
pub mod Sum64
pub mod TwoWords
pub mod Values
