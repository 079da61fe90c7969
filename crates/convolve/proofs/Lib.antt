pub mod Bounds
pub mod Dots
pub mod Fronts
pub mod Hearing
mod Rows
pub mod States
