pub mod Answer
pub mod ExitStatus
pub mod Laws
pub mod Outcome
pub mod Run
pub mod WavFile
pub mod Words
