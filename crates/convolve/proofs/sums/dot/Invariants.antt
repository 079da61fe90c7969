use Rattle.std.proofs.Common.{◌≡◌, ◌≤◌, ◌*◌, ◌^◌, ℤ, List, ℕ, take}
use Rattle.std.specs.Prelude.{unsigned_abs}
use Rattle.node_table.specs.Filters.{dot}
use Rattle.convolve.proofs.sums.dot.Given as goal

-- the sum of so many groups, and how far it can be from 0
pub record Summing (sum : ℤ) (response frames : List ℤ) (groups : ℕ) : Type 0 where
  pub value : sum ≡ dot (take (groups * 64) response) frames
  pub small : unsigned_abs sum ≤ groups * 2 ^ 62

abbrev pub invariant-loop-group : goal.invariant-loop-group
invariant-loop-group l = Summing l.sum l.response l.frames l.group
