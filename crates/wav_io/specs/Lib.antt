pub mod WavText
pub mod WavGrammar
pub mod WavRest
pub mod WavLaw
