pub mod Answer
pub mod ExitStatus
pub mod Laws
pub mod Pruning
pub mod Run
pub mod Words
