use Rattle.std.proofs.Common.{◌≡◌, ◌++◌, Bool, not, filter, drop}
use Rattle.wa_base.specs.declared.graph_names.End.{End}
use Rattle.cycle_order.proofs.Merging.{AreLeft}
use Rattle.cycle_order.proofs.orders.unlisted.Given as goal

abbrev pub invariant-loop-end : goal.invariant-loop-end
invariant-loop-end l =
    (test : End → Bool) → l.listed ≡ filter test l.ends
    → AreLeft test l.ends l.listed l.end-index l.place × (l.rest.items ++ filter (λ e. not (test e)) (drop l.end-index l.ends) ≡ filter (λ e. not (test e)) l.ends)
