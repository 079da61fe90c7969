pub mod Arrivals
pub mod Decision
pub mod Errors
pub mod Processor
pub mod ProcessorInside
pub mod Steps
