use Rattle.std.proofs.Common.{◌≡◌, slice_index_or}
use Rattle.wa_base.specs.declared.graph_names.End.{End}
use Rattle.quantum_blocks.specs.Blocks.{counts_in}
use Rattle.quantum_blocks.proofs.Orders.{no_end}
use Rattle.quantum_blocks.proofs.Sources.{IsIn-get_or}
use Rattle.quantum_render.proofs.Along.{holds_on, holds_of_all}
use Rattle.quantum_render.proofs.counting.have_one.Goals as goal

pub loop-end-init : goal.loop-end-init
loop-end-init c = λ rest. rest

pub has_count-requires : goal.has_count-requires
has_count-requires c = c.requires (slice_index_or c.args.muted.now c.loop-end.end-index no_end) (IsIn-get_or c.args.muted.now c.loop-end.end-index no_end c.loop-end-test.true)

pub loop-end-preserved : goal.loop-end-preserved
loop-end-preserved c = holds_on (λ (d : End). counts_in c.args.counts.now d ≡ 1) c.args.muted.now c.loop-end.end-index no_end c.loop-end-test.true (c.has_count.ensures c.if-not-has_count.false) c.loop-end.invariant

pub returns : goal.returns
returns c t = holds_of_all (λ (d : End). counts_in c.args.counts.now d ≡ 1) c.args.muted.now c.loop-end.end-index c.loop-end-test.false c.loop-end.invariant
