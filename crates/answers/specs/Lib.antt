pub mod FaultLine
pub mod Outside
