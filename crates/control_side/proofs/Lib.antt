pub mod Called
pub mod Deciding
pub mod EndedOrder
pub mod Finding
mod Leaving
mod Marks
mod Named
mod NewNames
pub mod Open
mod Parameters
pub mod Starting
pub mod Stepping
