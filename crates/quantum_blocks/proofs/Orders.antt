-- Going along an order of the ends.
use Rattle.std.proofs.Common.{ℕ, suc, ◌≡◌, ◌+◌, ◌<◌, length, List, ◌∷◌, drop, slice_index_or, false, arith, subst}
use Rattle.std.proofs.Math.Seq.{drop-cons}
use Rattle.wa_base.specs.declared.graph_names.End.{End}
use Rattle.conn_graph.specs.Orders.{IsLegalAfter}
use Rattle.meaning.specs.declared.world.World.{World}

-- no end is at this place
abbrev pub no_end : End
no_end = record { node = record { 0 = 0 }; writer = false }

-- what an order goes on with
pub next_in_order : (w : World) (order done : List End) (i : ℕ) → IsLegalAfter w.graph.value done (drop i order) → i < length order
    → IsLegalAfter w.graph.value done (slice_index_or order i no_end ∷ drop (i + 1) order)
next_in_order w order done i legal l =
    subst (λ k. IsLegalAfter w.graph.value done (slice_index_or order i no_end ∷ drop k order)) (let e : suc i ≡ i + 1 = omega arith in e)
    (subst (IsLegalAfter w.graph.value done) (drop-cons order i no_end l) legal)
