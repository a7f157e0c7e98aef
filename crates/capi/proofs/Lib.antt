pub mod Place
pub mod Listing
pub mod Decoded
pub mod Named
pub mod RoundTrip
