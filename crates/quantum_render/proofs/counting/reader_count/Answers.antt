use Rattle.std.proofs.Common.{ℕ, ◌≡◌, ◌*◌, ◌<◌, length, List, Bool, true, false, slice_index_or, sym, ◌∙◌, ap, ap₂, subst, arith}
use Rattle.std.specs.Prelude.{if◌then◌else◌, max, ◌&&◌}
use Rattle.std.proofs.lemmas.List.{get_or_default}
use Rattle.wa_base.specs.Contexts.{quantum_of}
use Rattle.node_table.specs.Kinds.{is_delay_kind}
use Rattle.node_table.proofs.Lasting.{the_delay}
use Rattle.conn_graph.specs.Ends.{writer_of, in_cycle}
use Rattle.meaning.specs.declared.world.World.{World}
use Rattle.meaning.specs.World.{sounding, kind_of}
use Rattle.meaning.specs.Validity.{IsValid}
use Rattle.meaning.specs.Counts.{Counts}
use Rattle.meaning.proofs.Joined.{joined}
use Rattle.quantum_blocks.specs.Blocks.{slot, counts_in}
use Rattle.quantum_render.specs.Plans.{AreCycles}
use Rattle.quantum_render.proofs.ReaderCounts.{most_before, reader_split}
use Rattle.quantum_blocks.proofs.Slots.{slot_low}
use Rattle.quantum_blocks.proofs.Sources.{same_nodes}
use Rattle.quantum_render.proofs.counting.reader_count.Goals as goal

-- a node's mark says whether its delay is in a cycle
mark_is : (w : World) → IsValid w → (marks : List Bool) → AreCycles w.graph.value marks → (n : ℕ) → n < length w.nodes → is_delay_kind (kind_of w n) ≡ true → (d mark : Bool) → mark ≡ slice_index_or marks n d → mark ≡ in_cycle w.graph.value n
mark_is w valid marks cycles n low delay d mark is =
    let there : n < length w.graph.value.nodes = subst (λ k. n < k) (sym (same_nodes w valid)) low in
    is
    ∙ get_or_default marks n d false (subst (λ k. n < k) (sym cycles.count) there)
    ∙ cycles.marked n there
    ∙ ap (λ b. b && in_cycle w.graph.value n) ((joined w valid).delays n ∙ delay)

pub returns-then-census-node-clause-value : goal.returns-then-census-node-clause-value
returns-then-census-node-clause-value c j earlier most =
    let w : World = c.args.census.now.world.now in
    let n : ℕ = c.args.node.0 in
    let now : Counts = counts_in c.args.counts.now in
    let low = c.requires.node in
    let delay = the_delay (kind_of w n) c.requires.delay in
    let had = most n delay.longest delay.time delay.capacity low delay.is in
    let cycle = mark_is w c.requires.valid c.args.census.now.cycles.now c.requires.cycles n low c.requires.delay _ true (sym c.if-census-node.true) in
    c.most-most.ensures.most had.delay had.there
    ∙ had.most
    ∙ ap (λ b. if b then most_before (quantum_of w.spec) (sounding w) n j earlier now had.lived else max (most_before (quantum_of w.spec) (sounding w) n j earlier now had.lived) (now (writer_of n))) cycle
    ∙ sym (reader_split (quantum_of w.spec) (sounding w) n j earlier now had.lived)

-- what the writer has in the quantum
written : (c : goal.After-greater) → slice_index_or c.args.counts.now c.slot.result 1 ≡ counts_in c.args.counts.now (writer_of c.args.node.0)
written c = ap (λ k. slice_index_or c.args.counts.now k 1) (c.slot.ensures ∙ ap slot c.writer.ensures)

within : (c : goal.After-greater) → c.slot.result < length c.args.counts.now
within c =
    let low = c.requires.node in
    subst (λ m. c.slot.result < m) (sym c.requires.range.places) (subst (λ k. k < 2 * length c.args.census.now.world.now.nodes) (sym (c.slot.ensures ∙ ap slot c.writer.ensures)) (slot_low (writer_of c.args.node.0) (length c.args.census.now.world.now.nodes) low))

pub returns-else-census-node-clause-value : goal.returns-else-census-node-clause-value
returns-else-census-node-clause-value c j earlier most =
    let w : World = c.args.census.now.world.now in
    let n : ℕ = c.args.node.0 in
    let now : Counts = counts_in c.args.counts.now in
    let low = c.requires.node in
    let delay = the_delay (kind_of w n) c.requires.delay in
    let had = most n delay.longest delay.time delay.capacity low delay.is in
    let cycle = mark_is w c.requires.valid c.args.census.now.cycles.now c.requires.cycles n low c.requires.delay _ false (sym c.if-census-node.false) in
    c.greater.ensures
    ∙ ap₂ max (c.most-most.ensures.most had.delay had.there ∙ had.most) (get_or_default c.args.counts.now c.slot.result _ 1 (within c) ∙ written c)
    ∙ ap (λ b. if b then most_before (quantum_of w.spec) (sounding w) n j earlier now had.lived else max (most_before (quantum_of w.spec) (sounding w) n j earlier now had.lived) (now (writer_of n))) cycle
    ∙ sym (reader_split (quantum_of w.spec) (sounding w) n j earlier now had.lived)

pub returns-else-census-node-clause-range : goal.returns-else-census-node-clause-range
returns-else-census-node-clause-range c =
    let greater = c.greater.ensures ∙ ap (λ k. max c.most-most.result k) (get_or_default c.args.counts.now c.slot.result _ 1 (within c)) in
    let low = c.most-most.ensures.low in
    let high = c.most-most.ensures.high in
    let few = c.requires.range.high c.slot.result (within c) in
    (omega (arith, greater, low), omega (arith, greater, high, few))
