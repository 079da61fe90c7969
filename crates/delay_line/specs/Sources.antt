-- Mixing up: each channel repeats a channel of the frame, or is silent.
use Rattle.std.specs.Prelude.{ℕ, suc, ◌≡◌, nat_le, IsTrue, ℤ, pos, List, map, Option, Some, None}
use Rattle.std.specs.List.{list_all}
use Rattle.mix_rules.specs.Mixing.{Form, channel, only, silence}

-- the linear form of a channel that repeats the channel with this index, or is silent
abbrev pub repeated : ℕ → Option ℕ → Form
repeated from None = silence
repeated from (Some i) = only (channel from i)

-- what the channel holds
abbrev pub picked : (ℕ → ℤ) → Option ℕ → ℤ
picked frame None = pos 0
picked frame (Some i) = frame i

-- how many channels the frame needs to have
abbrev pub needed : Option ℕ → ℕ
needed None = 0
needed (Some i) = suc i

-- the channels are a row of the table of mixing, and can be made of so many
pub record IsRow (from : ℕ) (channels : List (Option ℕ)) (row : Option (List Form)) : Type 0 where
  pub forms : row ≡ Some (map (repeated from) channels)
  pub enough : IsTrue (list_all (λ source. nat_le (needed source) from) channels)
