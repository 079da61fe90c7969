pub mod Filter
pub mod FilterInside
pub mod Histories
pub mod Scales
pub mod Waves
