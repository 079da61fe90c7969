-- How much of a channel a mixed channel has.
use Rattle.std.specs.Prelude.{ℕ, ◌==◌, ℤ, pos, if◌then◌else◌}
use Rattle.mix_rules.specs.Mixing.{one}

-- a frame with a one on a channel, and silence on all others
abbrev pub one_on : ℕ → ℕ → ℤ
one_on i = λ c. if c == i then one else pos 0
