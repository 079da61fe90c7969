pub mod Given
pub mod Weights
pub mod Sums
pub mod Histories
pub mod Outputs
