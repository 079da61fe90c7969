mod PrunedRows
pub mod Calls
pub mod Doing
pub mod Naming
pub mod Telling
pub mod Liveness
pub mod Marking
pub mod Hearing
pub mod Sources
pub mod Places
pub mod Holding
pub mod Forming
