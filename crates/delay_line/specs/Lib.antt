pub mod Delays
pub mod Inside
pub mod Lines
pub mod Rings
pub mod Runs
pub mod Sources
pub mod Spans
