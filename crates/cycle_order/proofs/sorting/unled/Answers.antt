use Rattle.std.proofs.Common.{ℕ, ◌++◌, ◌∷◌, [], ◌∙◌, ap}
use Rattle.cycle_order.proofs.Sorted.{one_unled, one_led}
use Rattle.cycle_order.proofs.sorting.unled.Goals as goal
use Rattle.cycle_order.proofs.sorting.unled.Goals.{then-counts-vertex-eq0+in_ok-push, else-counts-vertex-eq0}

pub loop-vertex-preserved : goal.loop-vertex-preserved
loop-vertex-preserved c =
    let counts = c.args.counts.now in
    let v : ℕ = c.loop-vertex.vertex in
    elim c.if-counts-vertex-eq0.branch [
      | then-counts-vertex-eq0+in_ok-push w ↦
          rw (w.free-is, w.in_ok-push.ensures.items) (ap (λ vs. vs ++ v ∷ []) c.loop-vertex.invariant ∙ one_unled counts v w.if-counts-vertex-eq0.true)
      | else-counts-vertex-eq0 w ↦
          rw w.free-is (c.loop-vertex.invariant ∙ one_led counts v w.if-counts-vertex-eq0.false)
    ]
