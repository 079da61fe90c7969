use Rattle.std.proofs.Common.{ℕ, ℤ, ◌≡◌, ◌≤◌, ◌*◌, ◌^◌, List, take}
use Rattle.shaper_iir.specs.Scales.{weight}
use Rattle.shaper_iir.proofs.scales.weight_of.Given as goal

-- the weight of the coefficients so far
pub record Weighing (sum : ℕ) (coefficients : List ℤ) (i : ℕ) : Type 0 where
  pub value : sum ≡ weight (take i coefficients)
  pub small : sum ≤ i * 2 ^ 31

abbrev pub invariant-loop-coefficient : goal.invariant-loop-coefficient
invariant-loop-coefficient l = Weighing l.sum l.coefficients l.coefficient-index
