use Rattle.std.proofs.Common.{ℕ, ℤ, ◌≡◌, ◌<◌, ◌+◌, List, true}
use Rattle.node_table.specs.Frames.{item, newest}
use Rattle.shaper_iir.specs.declared.histories.History.{History}
use Rattle.shaper_iir.specs.Histories.{after}
use Rattle.shaper_iir.specs.Scales.{IsQuiet}
use Rattle.shaper_iir.proofs.iir.filter_channel.Given as goal

-- so many frames were heard, and their outputs are written
pub record Hearing (forward back : List ℤ) (old now : History) (x y : List ℤ) (k : ℕ) : Type 0 where
  pub history : now ≡ after forward back old x 0 k
  pub outputs : (i : ℕ) → i < k → item y i ≡ newest (after forward back old x 0 (i + 1)).outputs

abbrev pub invariant-loop-k : goal.invariant-loop-k
invariant-loop-k l = record {
  heard : Hearing l.forward l.back l.initial.history l.history l.x l.y l.k;
  small : l.is_small ≡ true → IsQuiet l.scale.reach l.history;
}
