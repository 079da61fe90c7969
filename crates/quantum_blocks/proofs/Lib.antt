pub mod Slots
pub mod Connections
pub mod Attenuating
pub mod Silence
pub mod Sources
pub mod Lanes
pub mod Orders
pub mod Pairs
pub mod PassLaws
pub mod Holding
pub mod Heard
pub mod Widening
pub mod Added
mod Doubled
