use Rattle.std.proofs.Common.{◌<◌, slice_index_or, ◌∙◌, ap, subst}
use Rattle.std.proofs.lemmas.List.{get_or_default}
use Rattle.quantum_blocks.specs.Blocks.{BlockView, no_block, at}
use Rattle.quantum_blocks.proofs.Connections.{writes_one, written}
use Rattle.quantum_blocks.proofs.blocks.hush_end.Goals as goal

pub returns-clause-writes : goal.returns-clause-writes
returns-clause-writes c =
    let own = get_or_default c.args.blocks.now c.slot.result c.index-blocks-slot.result no_block (rw c.slot.ensures c.requires) ∙ ap (λ k. slice_index_or c.args.blocks.now k no_block) c.slot.ensures in
    writes_one c.args.blocks.now c.args.end c.slot.result c.silence.new.self c.slot.ensures (c.silence.ensures.lanes ∙ ap (λ (b : BlockView). b.lanes) own) (c.silence.ensures.frames ∙ ap (λ (b : BlockView). b.frames) own)

pub returns-clause-silent : goal.returns-clause-silent
returns-clause-silent c lane m low now =
    let here = written c.args.blocks.now c.args.end c.slot.result c.silence.new.self c.slot.ensures c.requires in
    ap (λ (b : BlockView). at b lane m) here
    ∙ c.silence.ensures.values lane m (subst (λ n. lane < n) (ap (λ (b : BlockView). b.lanes) here ∙ c.silence.ensures.lanes) low) (subst (λ n. m < n) (ap (λ (b : BlockView). b.frames) here ∙ c.silence.ensures.frames) now)
