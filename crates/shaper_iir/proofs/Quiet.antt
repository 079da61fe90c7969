-- Histories of which all is small.
use Rattle.std.proofs.Common.{◌≡◌, ◌≤◌, ℕ, ℤ, List, subst, sym}
use Rattle.std.specs.Prelude.{unsigned_abs}
use Rattle.node_table.specs.Filters.{next_output}
use Rattle.shaper_iir.specs.declared.histories.History.{History}
use Rattle.shaper_iir.specs.Histories.{in_front, next_history}
use Rattle.shaper_iir.specs.Scales.{IsQuiet}
use Rattle.shaper_iir.proofs.Weights.{front_small}

-- after one more frame, where its input and its output are small
pub next_quiet : (forward back : List ℤ) (old new : History) (x y : ℤ) (reach : ℕ) → new ≡ next_history forward back old x
    → y ≡ next_output forward back (in_front x old.inputs) old.outputs → IsQuiet reach old → unsigned_abs x ≤ reach → unsigned_abs y ≤ reach → IsQuiet reach new
next_quiet forward back old new x y reach is out quiet near_x near_y =
    subst (λ (h : History). IsQuiet reach h) (sym is)
    (record {
      inputs_small = front_small x old.inputs reach quiet.inputs_small near_x;
      outputs_small = front_small (next_output forward back (in_front x old.inputs) old.outputs) old.outputs reach quiet.outputs_small (subst (λ (z : ℤ). unsigned_abs z ≤ reach) out near_y);
    })
