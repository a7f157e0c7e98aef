pub mod Named
pub mod RoundTrip
pub mod Back
