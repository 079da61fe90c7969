use Rattle.std.proofs.Common.{◌≡◌, ◌≤◌, ◌*◌, ◌^◌, ◌+ℤ◌, ℤ, List, ℕ, drop}
use Rattle.std.specs.Prelude.{unsigned_abs}
use Rattle.node_table.specs.Filters.{dot}
use Rattle.shaper_iir.proofs.sums.dot.Given as goal

-- what is left to add, and how far the sum can be from 0
pub record Summing (sum : ℤ) (coefficients items : List ℤ) (i : ℕ) : Type 0 where
  pub rest : sum +ℤ dot (drop i coefficients) (drop i items) ≡ dot coefficients items
  pub small : unsigned_abs sum ≤ i * 2 ^ 62

abbrev pub invariant-loop-i : goal.invariant-loop-i
invariant-loop-i l = Summing l.sum l.coefficients l.items l.i
