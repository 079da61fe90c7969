use Rattle.std.proofs.Common.{ℕ, ◌≡◌, ◌<◌}
use Rattle.node_table.specs.Curves.{shaped}
use Rattle.node_table.specs.Frames.{item}
use Rattle.shaper_iir.proofs.shaper.shape_each.Given as goal

abbrev pub invariant-loop-k : goal.invariant-loop-k
invariant-loop-k l = (i : ℕ) → i < l.k → item l.y i ≡ shaped l.points (item l.x i)
