use Rattle.std.proofs.Common.{ℤ, ◌<◌, ◌∙◌, sym, ap, arith, slice_index_or, subst}
use Rattle.mix_rules.specs.Mixing.{mix}
use Rattle.conn_graph.specs.declared.edges.Edge.{Edge}
use Rattle.meaning.specs.Values.{Frame, part}
use Rattle.quantum_blocks.specs.Blocks.{frame_of}
use Rattle.quantum_blocks.proofs.Widening.{part_mono, total_mixed}
use Rattle.quantum_blocks.proofs.gathering.gather.Goals as goal

pub returns-then-are_mono-clause-sums : goal.returns-then-are_mono-clause-sums
returns-then-are_mono-clause-sums c w channel m in_range now =
    let x : Frame = frame_of w c.args.blocks.now c.args.counts.now m in
    let one : Edge → ℤ = part x c.args.inlet.interp 1 0 in
    let each : Edge → ℤ = part x c.args.inlet.interp c.args.inlet.count channel in
    c.widen.ensures.sums channel m in_range (subst (λ q. m < q) (sym c.gather_each.ensures.frames) now)
    ∙ ap (λ (v : ℤ). mix c.args.inlet.interp 1 c.args.inlet.count (λ i. v) channel) (c.gather_each.ensures.sums w 0 m (omega arith) now)
    ∙ total_mixed c.args.inlet.interp c.args.inlet.count channel c.args.inlet.target one each c.args.into.now
    (λ i d l. part_mono x c.args.inlet.interp c.args.inlet.count channel (slice_index_or c.args.into.now i d) (c.are_mono.ensures.0 c.if-are_mono.true i d l))
