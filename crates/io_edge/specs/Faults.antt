-- Counts of what failed outside.
use Rattle.std.specs.Prelude.{ℕ, ◌<◌, ◌≡◌, ◌⊎◌, ◌^◌, ◌-◌, Bool, true, false, Result, Ok, Err}
use Rattle.io_edge.specs.declared.errors.EdgeErr.{EdgeErr}
use Rattle.io_edge.specs.declared.errors.EdgeErr.TheVariants.{Failed, NoMemory}

-- a count of faults rose, or stands at the last value that it can have
abbrev pub Rose : ℕ → ℕ → Type 0
Rose before now = (before < now) ⊎ (now ≡ 2 ^ 64 - 1)

-- whether a call ended with a fault, which want of memory is none
abbrev pub is_fault : {A : Type 0} → Result A EdgeErr → Bool
is_fault (Ok a) = false
is_fault (Err Failed) = true
is_fault (Err NoMemory) = false
