pub mod Arriving
pub mod Deciding
mod ErrorRows
pub mod Hearing
pub mod Judging
pub mod OneError
pub mod Quotients
pub mod Refusals
mod Rows
pub mod Running
pub mod States
pub mod Stepping
pub mod Traps
