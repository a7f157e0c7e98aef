pub mod Short
pub mod Called
pub mod RoundTrip
