-- The words of a context's states, and the ranges in which a context can be rendered.
use Rattle.std.specs.Prelude.{ℕ, List, codes, ◌≤◌, ◌*◌, ◌&&◌, ◌||◌, nat_le, nat_eq, Bool}
use Rattle.wa_base.specs.declared.contexts.ContextSpec.{ContextSpec}
use Rattle.wa_base.specs.declared.contexts.State.{State}
use Rattle.wa_base.specs.declared.contexts.State.TheVariants.{Suspended, Running, Closed}

-- the word of an AudioContextState
abbrev pub state_word : State → List ℕ
state_word Suspended = codes "suspended"
state_word Running = codes "running"
state_word Closed = codes "closed"

-- ---- render quanta

-- the number of frames of a render quantum
abbrev pub quantum_of : ContextSpec → ℕ
quantum_of spec = spec.quantum

-- a render quantum has so many frames
pub record IsQuantumSize (frames : ℕ) : Type 0 where
  pub low : 32 ≤ frames
  pub high : frames ≤ 1024

-- ---- ranges

abbrev pub has_channels : ContextSpec → Bool
has_channels spec = nat_le 1 spec.channels && nat_le spec.channels 32

abbrev pub has_length : ContextSpec → Bool
has_length spec = nat_le 1 spec.length && nat_le spec.length 33554432

abbrev pub has_rate : ContextSpec → Bool
has_rate spec = nat_le 8000 spec.rate && nat_le spec.rate 96000

abbrev pub has_quantum : ContextSpec → Bool
has_quantum spec = nat_eq spec.quantum 32 || nat_eq spec.quantum 64 || nat_eq spec.quantum 128 || nat_eq spec.quantum 256 || nat_eq spec.quantum 512 || nat_eq spec.quantum 1024

-- a context that can be rendered
unfoldable pub is_supported : ContextSpec → Bool
is_supported spec = has_channels spec && has_length spec && has_rate spec && nat_le (spec.channels * spec.length) 67108864 && has_quantum spec

-- the same ranges, by name
pub record IsSupported (spec : ContextSpec) : Type 0 where
  pub channels_low : 1 ≤ spec.channels
  pub channels_high : spec.channels ≤ 32
  pub length_low : 1 ≤ spec.length
  pub length_high : spec.length ≤ 33554432
  pub rate_low : 8000 ≤ spec.rate
  pub rate_high : spec.rate ≤ 96000
  pub samples_high : spec.channels * spec.length ≤ 67108864
  pub quantum : IsQuantumSize spec.quantum
