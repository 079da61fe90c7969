use Rattle.std.proofs.Common.{ℕ, ℤ, pos, ◌≡◌, ◌+◌, ◌*◌, ◌+ℤ◌, ◌<◌, true, length, slice_index_or, sym, ◌∙◌, ap, arith, subst}
use Rattle.std.specs.Prelude.{if◌then◌else◌}
use Rattle.std.proofs.lemmas.Int.{ints}
use Rattle.std.proofs.lemmas.List.{get_or_default}
use Rattle.wa_base.specs.declared.graph_names.End.{End}
use Rattle.mix_rules.specs.Blocks.{frame_at}
use Rattle.mix_rules.specs.Mixing.{mix}
use Rattle.conn_graph.specs.Ends.{reader_of}
use Rattle.meaning.specs.Values.{part}
use Rattle.channel_mix.specs.Sums.{sum_at}
use Rattle.quantum_blocks.specs.Blocks.{BlockView, at, no_block, slot, block_of, carried, counts_in, frame_of}
use Rattle.quantum_blocks.specs.Connections.{leads_to}
use Rattle.quantum_blocks.specs.Waiting.{waiting_at}
use Rattle.quantum_blocks.proofs.Silence.{part_none, silent_carried}
use Rattle.quantum_blocks.proofs.gathering.hear.Goals.{then-is_silent-via-then-is_silent, then-is_silent-via-else-is_silent+then-not-is_same}
use Rattle.quantum_blocks.proofs.gathering.hear.Goals as goal

pub returns-then-is_silent-clause-sums : goal.returns-then-is_silent-clause-sums
returns-then-is_silent-clause-sums c w channel m in_range now = elim c.then-is_silent.branch [
  | then-is_silent-via-then-is_silent branch ↦
      let source : End = reader_of c.args.edge.now.from.0 in
      let place = c.slot-place.ensures ∙ ap slot c.reader.ensures in
      let block : c.index-blocks-place.result ≡ block_of c.args.blocks.now source =
      c.index-blocks-place.is ∙ get_or_default c.args.blocks.now c.slot-place.result c.index-blocks-place.result no_block (rw place c.requires.source.block) ∙ ap (λ k. slice_index_or c.args.blocks.now k no_block) place in
      let now' : m < (block_of c.args.blocks.now source).frames = subst (λ k. m < k) (sym c.requires.source.frames) now in
      let silent = subst (λ (b : BlockView). (lane n : ℕ) → lane < b.lanes → n < b.frames → at b lane n ≡ pos 0) block (c.is_silent.ensures branch.if-is_silent.true) in
      let none = part_none (frame_of w c.args.blocks.now c.args.counts.now m) c.args.inlet.interp c.args.inlet.count channel c.args.edge.now (leads_to c.args.inlet.target c.args.edge.now)
      (silent_carried (block_of c.args.blocks.now source) (counts_in c.args.counts.now source) c.args.edge.now.output m (λ lane low. silent lane m low now')) in
      omega (arith, ints, none)
  | then-is_silent-via-else-is_silent+then-not-is_same branch ↦
      let elsewhere = sym branch.is_same.ensures ∙ branch.if-not-is_same.true in
      let none = ap (λ b. if b then part (frame_of w c.args.blocks.now c.args.counts.now m) c.args.inlet.interp c.args.inlet.count channel c.args.edge.now else pos 0) elsewhere in
      omega (arith, ints, none)
]

pub returns-in-Steady-clause-sums : goal.returns-in-Steady-clause-sums
returns-in-Steady-clause-sums c w channel m in_range now =
    let source : End = reader_of c.args.edge.now.from.0 in
    let o : ℕ = c.args.edge.now.output in
    let place = c.slot-place.ensures ∙ ap slot c.reader.ensures in
    let old : ℤ = sum_at c.args.sums.now channel m in
    let held = c.in-Steady.ensures in
    let block : c.index-blocks-place.result ≡ block_of c.args.blocks.now source =
    c.index-blocks-place.is ∙ get_or_default c.args.blocks.now c.slot-place.result c.index-blocks-place.result no_block (rw place c.requires.source.block) ∙ ap (λ k. slice_index_or c.args.blocks.now k no_block) place in
    let heard : c.index-blocks-place.result.frames ≡ c.args.sums.now.frames = ap (λ (b : BlockView). b.frames) block ∙ c.requires.source.frames in
    let now' : m < c.index-blocks-place.result.frames = subst (λ k. m < k) (sym heard) now in
    let channels : slice_index_or c.args.counts.now c.slot-place.result 0 ≡ counts_in c.args.counts.now source =
    get_or_default c.args.counts.now c.slot-place.result 0 1 (rw place c.requires.source.count) ∙ ap (λ k. slice_index_or c.args.counts.now k 1) place in
    let leads : leads_to c.args.inlet.target c.args.edge.now ≡ true = sym c.is_same.ensures ∙ c.if-not-is_same.false in
    let added = c.add_steady.ensures.sums channel m (subst (λ n. channel < n) (sym c.requires.count) in_range) now
    ∙ ap (λ (f : ℕ → ℤ). old +ℤ mix c.args.inlet.interp (length c.in-Steady.held.now) c.args.sums.now.count f channel) (held.1 m now')
    ∙ ap (λ n. old +ℤ mix c.args.inlet.interp n c.args.sums.now.count (carried c.index-blocks-place.result (slice_index_or c.args.counts.now c.slot-place.result 0) o m) channel) held.0
    ∙ ap (λ n. old +ℤ mix c.args.inlet.interp n c.args.sums.now.count (carried c.index-blocks-place.result n o m) channel) channels
    ∙ ap (λ (b : BlockView). old +ℤ mix c.args.inlet.interp (counts_in c.args.counts.now source) c.args.sums.now.count (carried b (counts_in c.args.counts.now source) o m) channel) block
    ∙ ap (λ n. old +ℤ mix c.args.inlet.interp (counts_in c.args.counts.now source) n (carried (block_of c.args.blocks.now source) (counts_in c.args.counts.now source) o m) channel) c.requires.count
    ∙ ap (λ b. old +ℤ (if b then part (frame_of w c.args.blocks.now c.args.counts.now m) c.args.inlet.interp c.args.inlet.count channel c.args.edge.now else pos 0)) (sym leads) in
    omega (arith, ints, added)

pub returns-in-Moving-clause-sums : goal.returns-in-Moving-clause-sums
returns-in-Moving-clause-sums c w channel m in_range now =
    let source : End = reader_of c.args.edge.now.from.0 in
    let o : ℕ = c.args.edge.now.output in
    let place = c.slot-place.ensures ∙ ap slot c.reader.ensures in
    let before : ℤ = sum_at c.args.sums.now channel m +ℤ waiting_at c.args.waiting (channel * c.args.sums.now.frames + m) in
    let held = c.in-Moving.ensures in
    let block : c.index-blocks-place.result ≡ block_of c.args.blocks.now source =
    c.index-blocks-place.is ∙ get_or_default c.args.blocks.now c.slot-place.result c.index-blocks-place.result no_block (rw place c.requires.source.block) ∙ ap (λ k. slice_index_or c.args.blocks.now k no_block) place in
    let heard : c.index-blocks-place.result.frames ≡ c.args.sums.now.frames = ap (λ (b : BlockView). b.frames) block ∙ c.requires.source.frames in
    let now' : m < c.index-blocks-place.result.frames = subst (λ k. m < k) (sym heard) now in
    let channels : slice_index_or c.args.counts.now c.slot-place.result 0 ≡ counts_in c.args.counts.now source =
    get_or_default c.args.counts.now c.slot-place.result 0 1 (rw place c.requires.source.count) ∙ ap (λ k. slice_index_or c.args.counts.now k 1) place in
    let leads : leads_to c.args.inlet.target c.args.edge.now ≡ true = sym c.is_same.ensures ∙ c.if-not-is_same.false in
    c.add_or_wait.ensures.sums channel m in_range now
    ∙ ap (λ k. before +ℤ mix c.args.inlet.interp (slice_index_or c.args.counts.now c.slot-place.result 0) c.args.inlet.count (frame_at k c.in-Moving.values.now m) channel) (sym heard)
    ∙ ap (λ (f : ℕ → ℤ). before +ℤ mix c.args.inlet.interp (slice_index_or c.args.counts.now c.slot-place.result 0) c.args.inlet.count f channel) (held.1 m now')
    ∙ ap (λ n. before +ℤ mix c.args.inlet.interp n c.args.inlet.count (carried c.index-blocks-place.result n o m) channel) channels
    ∙ ap (λ (b : BlockView). before +ℤ mix c.args.inlet.interp (counts_in c.args.counts.now source) c.args.inlet.count (carried b (counts_in c.args.counts.now source) o m) channel) block
    ∙ ap (λ b. before +ℤ (if b then part (frame_of w c.args.blocks.now c.args.counts.now m) c.args.inlet.interp c.args.inlet.count channel c.args.edge.now else pos 0)) (sym leads)
