pub mod Register
pub mod List
pub mod Decode
pub mod Encode
