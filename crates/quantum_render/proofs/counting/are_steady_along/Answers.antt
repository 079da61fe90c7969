use Rattle.std.proofs.Common.{ℕ, ◌≡◌, ◌⊎◌, ◌<◌, ◌≤◌, List, [], length, slice_index_or, inl, inr, sym, ◌∙◌, ap, subst, arith}
use Rattle.std.proofs.lemmas.Bool.Decides.{nat_tests}
use Rattle.wa_base.specs.declared.graph_names.End.{End}
use Rattle.law_base.specs.Members.{IsIn}
use Rattle.conn_graph.specs.declared.edges.Edge.{Edge}
use Rattle.conn_graph.specs.Ends.{ends}
use Rattle.meaning.specs.declared.world.World.{World}
use Rattle.quantum_blocks.proofs.Orders.{no_end}
use Rattle.quantum_blocks.proofs.Slots.{slot_is}
use Rattle.quantum_blocks.proofs.Sources.{IsIn-get_or, same_nodes, end_low}
use Rattle.quantum_render.specs.Plans.{IsSteady}
use Rattle.quantum_render.proofs.Along.{HoldsUpTo, holds_on, holds_of_all}
use Rattle.quantum_render.proofs.Steady.{order_there}
use Rattle.quantum_render.proofs.counting.are_steady_along.Goals as goal
use Rattle.quantum_render.proofs.counting.are_steady_along.Goals.{then-next-timed+then-slot, else-next-timed+else-not-is_steady, else-next-timed-via-then-next-timed+else-slot, else-next-timed-via-else-next-timed}

pub loop-end-init : goal.loop-end-init
loop-end-init c = record { within = omega arith; there = λ rest. rest; steady = λ rest. rest }

pub part-into-requires : goal.part-into-requires
part-into-requires c =
    let w : World = c.args.world.now in
    let i : ℕ = c.loop-end.end-index in
    let x : End = slice_index_or c.args.plan.now.order i no_end in
    let l = subst (λ (xs : List End). i < length xs) c.order-end-items.ensures c.loop-end-test.true in
    let low = end_low w c.requires.valid x (order_there w.graph.value c.args.plan.now.order c.requires.plan.legal i l) in
    subst (λ (xs : List End). (slice_index_or xs i no_end).node.0 < length c.sources.result.now) (sym c.order-end-items.ensures)
    (subst (λ (ps : List (List Edge)). x.node.0 < length ps) (sym c.sources.ensures)
    (subst (λ n. x.node.0 < n) (sym (c.requires.plan.nodes ∙ same_nodes w c.requires.valid)) low))

pub is_steady-requires-clause-there : goal.is_steady-requires-clause-there
is_steady-requires-clause-there c =
    let w : World = c.args.world.now in
    let i : ℕ = c.loop-end.end-index in
    let l = subst (λ (xs : List End). i < length xs) c.order-end-items.ensures c.loop-end-test.true in
    subst (λ (xs : List End). IsIn (slice_index_or xs i no_end) (ends w.graph.value)) (sym c.order-end-items.ensures) (order_there w.graph.value c.args.plan.now.order c.requires.plan.legal i l)

pub is_steady-requires-clause-into : goal.is_steady-requires-clause-into
is_steady-requires-clause-into c =
    let w : World = c.args.world.now in
    let i : ℕ = c.loop-end.end-index in
    let x : End = slice_index_or c.order-end-items.result.now i no_end in
    let l = subst (λ (xs : List End). i < length xs) c.order-end-items.ensures c.loop-end-test.true in
    let there = subst (λ (xs : List End). IsIn (slice_index_or xs i no_end) (ends w.graph.value)) (sym c.order-end-items.ensures) (order_there w.graph.value c.args.plan.now.order c.requires.plan.legal i l) in
    let low : x.node.0 < length c.args.plan.now.into = subst (λ n. x.node.0 < n) (sym (c.requires.plan.nodes ∙ same_nodes w c.requires.valid)) (end_low w c.requires.valid x there) in
    c.part-into.ensures ∙ ap (λ (ps : List (List Edge)). slice_index_or ps x.node.0 []) c.sources.ensures ∙ c.requires.plan.each x.node.0 low

pub loop-end-preserved : goal.loop-end-preserved
loop-end-preserved c =
    let w : World = c.args.world.now in
    let i : ℕ = c.loop-end.end-index in
    let x : End = slice_index_or c.args.plan.now.order i no_end in
    let l = subst (λ (xs : List End). i < length xs) c.order-end-items.ensures c.loop-end-test.true in
    let there = order_there w.graph.value c.args.plan.now.order c.requires.plan.legal i l in
    let kept = c.loop-end.invariant in
    elim c.if-next-timed.branch [
      | then-next-timed+then-slot b ↦
          let low = subst (λ (ts : List End). c.loop-end.next < length ts) c.timed-timed.ensures b.if-next-timed.true in
          let same = subst (λ (xs : List End). slice_index_or c.args.plan.now.timed c.loop-end.next no_end ≡ slice_index_or xs i no_end) c.order-end-items.ensures
          (subst (λ (ts : List End). slice_index_or ts c.loop-end.next no_end ≡ slice_index_or c.order-end-items.result.now i no_end) c.timed-timed.ensures (slot_is _ _ (sym b.slot.ensures ∙ b.if-slot.true ∙ b.slot-then-next-timed.ensures))) in
          record {
            within = subst (λ k. k ≤ length c.args.plan.now.timed) (sym b.next-is) (omega (arith, low));
            there = subst (HoldsUpTo (λ (d : End). IsIn d (ends w.graph.value)) c.args.plan.now.timed) (sym b.next-is)
                (holds_on (λ (d : End). IsIn d (ends w.graph.value)) c.args.plan.now.timed c.loop-end.next no_end low (subst (λ (e : End). IsIn e (ends w.graph.value)) (sym same) there) kept.there);
            steady = holds_on (λ (d : End). IsIn d c.args.plan.now.timed ⊎ IsSteady w c.args.counts.now d) c.args.plan.now.order i no_end l
                (inl (subst (λ (e : End). IsIn e c.args.plan.now.timed) same (IsIn-get_or c.args.plan.now.timed c.loop-end.next no_end low))) kept.steady;
          }
      | else-next-timed+else-not-is_steady b ↦ record {
        within = subst (λ k. k ≤ length c.args.plan.now.timed) (sym b.next-is) kept.within;
        there = subst (HoldsUpTo (λ (d : End). IsIn d (ends w.graph.value)) c.args.plan.now.timed) (sym b.next-is) kept.there;
        steady = holds_on (λ (d : End). IsIn d c.args.plan.now.timed ⊎ IsSteady w c.args.counts.now d) c.args.plan.now.order i no_end l
            (inr (subst (λ (xs : List End). IsSteady w c.args.counts.now (slice_index_or xs i no_end)) c.order-end-items.ensures (b.is_steady.ensures b.if-not-is_steady.false))) kept.steady;
      }
    ]

pub returns-clause-there : goal.returns-clause-there
returns-clause-there c t =
    let done : c.loop-end.next ≡ length c.timed-timed.result.now = grind (arith, nat_tests) in
    let past : length c.args.plan.now.timed ≤ c.loop-end.next = subst (λ (xs : List End). length xs ≤ c.loop-end.next) c.timed-timed.ensures (let e = done in omega arith) in
    holds_of_all (λ (d : End). IsIn d (ends c.args.world.now.graph.value)) c.args.plan.now.timed c.loop-end.next past c.loop-end.invariant.there

pub returns-clause-steady : goal.returns-clause-steady
returns-clause-steady c t =
    let past = subst (λ (xs : List End). length xs ≤ c.loop-end.end-index) c.order-end-items.ensures c.loop-end-test.false in
    holds_of_all (λ (d : End). IsIn d c.args.plan.now.timed ⊎ IsSteady c.args.world.now c.args.counts.now d) c.args.plan.now.order c.loop-end.end-index past c.loop-end.invariant.steady
