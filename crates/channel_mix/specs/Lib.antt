pub mod Adding
pub mod Outputs
pub mod Sums
