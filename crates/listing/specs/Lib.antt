pub mod Listing
pub mod Call
