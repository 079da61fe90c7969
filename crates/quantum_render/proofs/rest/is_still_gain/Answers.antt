use Rattle.std.proofs.Common.{ℕ, ℤ, ◌≡◌, ◌<◌, ◌+◌, ◌*◌, ◌≤◌, length, List, slice_index_or, false, sym, ◌∙◌, ap, ap₂, subst, arith, FitsSigned}
use Rattle.std.specs.Int.{w32}
use Rattle.std.proofs.lemmas.Int.{to_z-of_z}
use Rattle.std.proofs.lemmas.List.{get_or_default}
use Rattle.wa_base.specs.Numbers.{scale}
use Rattle.wa_base.specs.declared.graph_names.End.{End}
use Rattle.law_base.specs.Members.{IsIn}
use Rattle.node_table.specs.Kinds.{outputs}
use Rattle.node_table.specs.declared.kinds.Kind.TheVariants.{Gain}
use Rattle.conn_graph.specs.declared.edges.Edge.{Edge}
use Rattle.conn_graph.specs.Ends.{ends, reader_of}
use Rattle.meaning.specs.declared.world.World.{World}
use Rattle.meaning.specs.World.{kind_of}
use Rattle.quantum_blocks.specs.Blocks.{BlockView, no_block, at, carried, slot, block_of, counts_in}
use Rattle.quantum_blocks.specs.Connections.{no_edge}
use Rattle.quantum_blocks.specs.Fits.{AreFit}
use Rattle.quantum_blocks.proofs.Connections.{one_item}
use Rattle.quantum_blocks.proofs.Slots.{slot_low}
use Rattle.quantum_blocks.proofs.Sources.{end_low}
use Rattle.quantum_render.specs.declared.rest.Ahead.{Ahead}
use Rattle.quantum_render.specs.Ahead.{IsAhead}
use Rattle.quantum_render.proofs.SiteLaws.{sources_fit}
use Rattle.quantum_render.proofs.rest.is_still_gain.Goals as goal

-- the one lane for each channel that a gain has
gain_lanes : (w : World) (counts : List ℕ) (all : List BlockView) → AreFit w counts all → (e : End) → IsIn e (ends w.graph.value) → (gain : ℤ) → kind_of w e.node.0 ≡ Gain gain → (block_of all e).lanes ≡ counts_in counts e
gain_lanes w counts all fit e there gain kind =
    fit.lanes e there ∙ ap (λ k. outputs k * counts_in counts e) kind ∙ (let one : 1 * counts_in counts e ≡ counts_in counts e = omega arith in one)

-- an end's block stands in its place
own_block : (a : Ahead) → IsAhead a → (e : End) → IsIn e (ends a.census.now.world.now.graph.value) → (k : ℕ) (d : BlockView) → k ≡ slot e → slice_index_or a.blocks.now k d ≡ block_of a.blocks.now e
own_block a is e there k d place =
    let w : World = a.census.now.world.now in
    let low = slot_low e (length w.nodes) (end_low w is.valid e there) in
    ap (λ j. slice_index_or a.blocks.now j d) place ∙ get_or_default a.blocks.now (slot e) d no_block (subst (λ k. slot e < k) (sym is.fit.places) low)

pub brings_all-requires-clause-source : goal.brings_all-requires-clause-source
brings_all-requires-clause-source c =
    let w : World = c.args.ahead.now.census.now.world.now in
    (sources_fit w c.requires.ahead.valid c.args.end.node.0 c.args.into.now c.requires.into c.args.ahead.now.counts.now c.requires.ahead.range c.args.ahead.now.blocks.now c.requires.ahead.fit 0 no_edge (omega (arith, c.in-len1.len_at_least))).count

pub bounds-ahead-slot : goal.bounds-ahead-slot
bounds-ahead-slot c =
    let w : World = c.args.ahead.now.census.now.world.now in
    let source = sources_fit w c.requires.ahead.valid c.args.end.node.0 c.args.into.now c.requires.into c.args.ahead.now.counts.now c.requires.ahead.range c.args.ahead.now.blocks.now c.requires.ahead.fit 0 no_edge (omega (arith, c.in-len1.len_at_least)) in
    subst (λ k. k < length c.args.ahead.now.blocks.now) (sym (c.slot.ensures ∙ ap slot c.reader-source.ensures)) source.block

pub is_scaled-requires-clause-output : goal.is_scaled-requires-clause-output
is_scaled-requires-clause-output c =
    let w : World = c.args.ahead.now.census.now.world.now in
    let all = c.args.ahead.now.blocks.now in
    let counts = c.args.ahead.now.counts.now in
    let e : Edge = slice_index_or c.args.into.now 0 no_edge in
    let source = sources_fit w c.requires.ahead.valid c.args.end.node.0 c.args.into.now c.requires.into counts c.requires.ahead.range all c.requires.ahead.fit 0 no_edge (omega (arith, c.in-len1.len_at_least)) in
    let place = c.slot.ensures ∙ ap slot c.reader-source.ensures in
    let heard = ap (λ k. slice_index_or all k c.index-ahead-slot.result) place ∙ get_or_default all (slot (reader_of e.from.0)) c.index-ahead-slot.result no_block source.block in
    let own = own_block c.args.ahead.now c.requires.ahead c.args.end c.requires.there c.slot-in-Some.result c.index-ahead-slot-in-Some.result c.slot-in-Some.ensures in
    let lanes = ap (λ (b : BlockView). b.lanes) own ∙ gain_lanes w counts all c.requires.ahead.fit c.args.end c.requires.there c.requires.kind.0 c.requires.kind.1 in
    let count = (c.brings_all.ensures c.if-not-brings_all.false).1 in
    subst (λ (b : BlockView). e.output * (slice_index_or all c.slot-in-Some.result c.index-ahead-slot-in-Some.result).lanes + (slice_index_or all c.slot-in-Some.result c.index-ahead-slot-in-Some.result).lanes ≤ b.lanes) (sym heard)
    (subst (λ n. e.output * n + n ≤ (block_of all (reader_of e.from.0)).lanes) (count ∙ sym lanes) source.lanes)

pub is_scaled-requires-clause-frames : goal.is_scaled-requires-clause-frames
is_scaled-requires-clause-frames c =
    let w : World = c.args.ahead.now.census.now.world.now in
    let all = c.args.ahead.now.blocks.now in
    let e : Edge = slice_index_or c.args.into.now 0 no_edge in
    let source = sources_fit w c.requires.ahead.valid c.args.end.node.0 c.args.into.now c.requires.into c.args.ahead.now.counts.now c.requires.ahead.range all c.requires.ahead.fit 0 no_edge (omega (arith, c.in-len1.len_at_least)) in
    let place = c.slot.ensures ∙ ap slot c.reader-source.ensures in
    let heard = ap (λ k. slice_index_or all k c.index-ahead-slot.result) place ∙ get_or_default all (slot (reader_of e.from.0)) c.index-ahead-slot.result no_block source.block in
    let own = own_block c.args.ahead.now c.requires.ahead c.args.end c.requires.there c.slot-in-Some.result c.index-ahead-slot-in-Some.result c.slot-in-Some.ensures in
    ap (λ (b : BlockView). b.frames) heard ∙ source.frames ∙ sym (ap (λ (b : BlockView). b.frames) own ∙ c.requires.ahead.fit.frames c.args.end c.requires.there)

pub returns-in-Some : goal.returns-in-Some
returns-in-Some c product =
    let w : World = c.args.ahead.now.census.now.world.now in
    let all = c.args.ahead.now.blocks.now in
    let counts = c.args.ahead.now.counts.now in
    let e : Edge = slice_index_or c.args.into.now 0 no_edge in
    let source = sources_fit w c.requires.ahead.valid c.args.end.node.0 c.args.into.now c.requires.into counts c.requires.ahead.range all c.requires.ahead.fit 0 no_edge (omega (arith, c.in-len1.len_at_least)) in
    let place = c.slot.ensures ∙ ap slot c.reader-source.ensures in
    let heard = ap (λ k. slice_index_or all k c.index-ahead-slot.result) place ∙ get_or_default all (slot (reader_of e.from.0)) c.index-ahead-slot.result no_block source.block in
    let own = own_block c.args.ahead.now c.requires.ahead c.args.end c.requires.there c.slot-in-Some.result c.index-ahead-slot-in-Some.result c.slot-in-Some.ensures in
    let own_lanes = ap (λ (b : BlockView). b.lanes) own ∙ gain_lanes w counts all c.requires.ahead.fit c.args.end c.requires.there c.requires.kind.0 c.requires.kind.1 in
    let own_frames = ap (λ (b : BlockView). b.frames) own ∙ c.requires.ahead.fit.frames c.args.end c.requires.there in
    let carried_is = λ (k m : ℕ). ap₂ (λ (b : BlockView) j. carried b j e.output m k) heard own_lanes in
    let brings = c.brings_all.ensures c.if-not-brings_all.false in
    record {
      gain = c.in-Some.gain;
      fits = c.in-Some.ensures.fits;
      edge = e;
      only = sym c.requires.into ∙ one_item c.args.into.now no_edge c.in-len1.len_at_least c.in-len1.len_below;
      leads = brings.0;
      marked = sym (c.is_marked.ensures ∙ ap (λ (x : End). slice_index_or c.args.marks.now (slot x) false) c.reader-source.ensures) ∙ c.if-not-is_marked.false;
      count = brings.1;
      level = c.in-Some.ensures.level;
      scaled = λ k m low now. ap (λ (b : BlockView). at b k m) (sym own) ∙ c.is_scaled.ensures.values product k m (subst (λ j. k < j) (sym own_lanes) low) (subst (λ j. m < j) (sym own_frames) now) ∙ ap₂ scale (carried_is k m) (to_z-of_z w32 c.in-Some.gain c.in-Some.ensures.fits);
      fit = λ k m low now. subst (FitsSigned w32) (carried_is k m) (c.is_scaled.ensures.fit product k m (subst (λ j. k < j) (sym own_lanes) low) (subst (λ j. m < j) (sym own_frames) now));
    }
