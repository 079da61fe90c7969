mod BufferRows
pub mod Contents
pub mod Draws
pub mod Positions
pub mod Rounds
mod Rows
pub mod Schedules
pub mod Spans
