mod FaultLines
pub mod Since
