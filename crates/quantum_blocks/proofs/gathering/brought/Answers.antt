use Rattle.std.proofs.Common.{ℕ, ◌≡◌, ◌<◌, slice_index_or, ◌∙◌, ap, sym, subst, arith}
use Rattle.std.proofs.lemmas.List.{get_or_default}
use Rattle.std.proofs.lemmas.Bool.Decides.{nat_tests}
use Rattle.wa_base.specs.declared.graph_names.End.{End}
use Rattle.mix_rules.specs.Mixing.{mix}
use Rattle.mix_rules.proofs.Laws.{mix_same}
use Rattle.conn_graph.specs.Ends.{reader_of}
use Rattle.quantum_blocks.specs.Blocks.{BlockView, no_block, slot, block_of, carried, counts_in}
use Rattle.quantum_blocks.specs.Held.{HasChannels, held_at}
use Rattle.quantum_blocks.proofs.Pairs.{carried_long, carried_at}
use Rattle.quantum_blocks.proofs.gathering.brought.Goals as goal

pub returns : goal.returns
returns c q is =
    let source : End = reader_of c.args.edge.now.from.0 in
    let o : ℕ = c.args.edge.now.output in
    let count : ℕ = c.args.inlet.count in
    let place = c.slot-place.ensures ∙ ap slot c.reader.ensures in
    let block : c.index-blocks-place.result ≡ block_of c.args.blocks.now source =
    c.index-blocks-place.is ∙ get_or_default c.args.blocks.now c.slot-place.result c.index-blocks-place.result no_block (rw place is.block) ∙ ap (λ k. slice_index_or c.args.blocks.now k no_block) place in
    let frames : c.index-blocks-place.result.frames ≡ q = ap (λ (b : BlockView). b.frames) block ∙ is.frames in
    let tested : slice_index_or c.args.counts.now c.slot-place.result 0 ≡ count = let t = c.if-counts-place.false in grind (arith, nat_tests) in
    let same : counts_in c.args.counts.now source ≡ count =
    sym (get_or_default c.args.counts.now c.slot-place.result 0 1 (rw place is.count) ∙ ap (λ k. slice_index_or c.args.counts.now k 1) place) ∙ tested in
    record {
      leads = sym c.is_same.ensures ∙ c.if-not-is_same.false;
      long = subst (λ k. HasChannels k count c.output.result) frames (carried_long _ _ count c.output.result c.output.ensures);
      values = λ w channel m low now.
          ap (λ k. held_at k c.output.result channel m) (sym frames)
          ∙ carried_at _ (carried c.index-blocks-place.result count o) count c.output.result c.output.ensures channel m (subst (λ k. m < k) (sym frames) now)
          ∙ ap (λ (b : BlockView). carried b count o m channel) block
          ∙ sym (ap (λ n. mix c.args.inlet.interp n count (carried (block_of c.args.blocks.now source) n o m) channel) same
          ∙ mix_same c.args.inlet.interp count (carried (block_of c.args.blocks.now source) count o m) channel low);
    }
