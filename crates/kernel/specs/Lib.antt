pub mod Counts
pub mod Wide
pub mod Work
