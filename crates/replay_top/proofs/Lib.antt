mod Completeness
mod Ends
mod FrameRows
mod Outcomes
mod Turns
mod WavParts
