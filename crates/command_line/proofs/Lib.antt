mod CommandLines
mod Dashes
mod Faults
mod Numbers
mod PartRows
mod WalkEnds
mod WordByWord
mod WordTurns
