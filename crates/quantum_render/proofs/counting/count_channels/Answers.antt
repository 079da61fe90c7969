use Rattle.std.proofs.Common.{rules, ◌+◌, ◌<◌, length, slice_index_or, slice_set, sym, ◌∙◌, subst}
use Rattle.wa_base.specs.declared.graph_names.End.{End}
use Rattle.quantum_blocks.proofs.Sources.{same_nodes, end_low}
use Rattle.quantum_blocks.proofs.Orders.{no_end}
use Rattle.quantum_render.proofs.CountPass.{Counting, counting_begins, next, next_slot, counting_goes_on, counting_ends}
use Rattle.quantum_render.proofs.counting.count_channels.Goals as goal

pub loop-end-init : goal.loop-end-init
loop-end-init c = counting_begins c.args.census.now.world.now c.requires.valid c.args.census.now.delays.now c.args.census.now.first c.args.order.now c.requires.plan.1.legal c.fill.new.self (c.fill.ensures.len ∙ c.requires.places) (search rules)

pub part-into-requires : goal.part-into-requires
part-into-requires c =
    let x : End = slice_index_or c.args.order.now c.loop-end.end-index no_end in
    let there = end_low c.args.census.now.world.now c.requires.valid x (next c.args.census.now.world.now c.requires.valid c.args.census.now.delays.now c.args.census.now.first c.args.order.now c.loop-end.end-index c.loop-end.counts c.loop-end.invariant c.loop-end-test.true).0 in
    subst (λ n. x.node.0 < n) (sym (c.requires.plan.1.nodes ∙ same_nodes c.args.census.now.world.now c.requires.valid)) there

pub count_of-requires-clause-there : goal.count_of-requires-clause-there
count_of-requires-clause-there c = (next c.args.census.now.world.now c.requires.valid c.args.census.now.delays.now c.args.census.now.first c.args.order.now c.loop-end.end-index c.loop-end.counts c.loop-end.invariant c.loop-end-test.true).0

pub count_of-requires-clause-into : goal.count_of-requires-clause-into
count_of-requires-clause-into c =
    let x : End = slice_index_or c.args.order.now c.loop-end.end-index no_end in
    let there = end_low c.args.census.now.world.now c.requires.valid x (next c.args.census.now.world.now c.requires.valid c.args.census.now.delays.now c.args.census.now.first c.args.order.now c.loop-end.end-index c.loop-end.counts c.loop-end.invariant c.loop-end-test.true).0 in
    let within : x.node.0 < length c.args.census.now.into.now = subst (λ n. x.node.0 < n) (sym (c.requires.plan.1.nodes ∙ same_nodes c.args.census.now.world.now c.requires.valid)) there in
    c.part-into.ensures ∙ c.requires.plan.1.each x.node.0 within

pub bounds-counts-slot : goal.bounds-counts-slot
bounds-counts-slot c =
    subst (λ k. k < length c.loop-end.counts) (sym c.slot.ensures)
    (next_slot c.args.census.now.world.now c.requires.valid c.args.census.now.delays.now c.args.census.now.first c.args.order.now c.loop-end.end-index c.loop-end.counts c.loop-end.invariant c.loop-end-test.true)

pub loop-end-preserved : goal.loop-end-preserved
loop-end-preserved c =
    subst (λ k. Counting c.args.census.now.world.now c.args.census.now.delays.now c.args.census.now.first c.args.order.now (c.loop-end.end-index + 1) (slice_set c.loop-end.counts k c.count_of.result)) (sym c.slot.ensures)
    (counting_goes_on c.args.census.now.world.now c.requires.valid c.args.census.now.delays.now c.args.census.now.first c.args.order.now c.loop-end.end-index c.loop-end.counts c.loop-end.invariant c.loop-end-test.true c.requires.delays
    c.count_of.result c.count_of.ensures.value c.count_of.ensures.range.0 c.count_of.ensures.range.1 c.count_of.ensures.lanes c.count_of.ensures.mono)

pub returns-clause-counted : goal.returns-clause-counted
returns-clause-counted c = counting_ends c.args.census.now.world.now c.args.census.now.delays.now c.args.census.now.first c.args.order.now c.loop-end.end-index c.loop-end.counts c.loop-end.invariant (search rules)
