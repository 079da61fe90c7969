pub mod Pruned
pub mod Names
pub mod Deeds
pub mod Live
pub mod Keeping
