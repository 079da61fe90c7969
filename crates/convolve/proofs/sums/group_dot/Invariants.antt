use Rattle.std.proofs.Common.{◌≡◌, ◌≤◌, ◌*◌, ◌^◌, ℤ, List, ℕ, take}
use Rattle.std.specs.Prelude.{unsigned_abs}
use Rattle.node_table.specs.Filters.{dot}
use Rattle.convolve.proofs.sums.group_dot.Given as goal

-- the sum so far, and how far it can be from 0
pub record Summing (sum : ℤ) (taps frames : List ℤ) (m : ℕ) : Type 0 where
  pub value : sum ≡ dot (take m taps) frames
  pub small : unsigned_abs sum ≤ m * 2 ^ 56

abbrev pub invariant-loop-m : goal.invariant-loop-m
invariant-loop-m l = Summing l.sum l.taps l.frames l.m
