use Rattle.std.proofs.Common.{rules, slice_index_or, sym, ◌∙◌, subst}
use Rattle.wa_base.specs.declared.graph_names.End.{End}
use Rattle.law_base.specs.Members.{IsIn}
use Rattle.quantum_blocks.proofs.Sources.{IsIn-get_or}
use Rattle.quantum_blocks.proofs.Orders.{no_end}
use Rattle.quantum_blocks.proofs.PassLaws.{silent_more, stays_silent}
use Rattle.quantum_blocks.proofs.blocks.hush.Goals as goal

pub loop-end-preserved : goal.loop-end-preserved
loop-end-preserved c = record {
  length = search rules;
  lanes = c.hush_end.ensures.writes.lanes ∙ c.loop-end.invariant.lanes;
  frames = c.hush_end.ensures.writes.frames ∙ c.loop-end.invariant.frames;
  kept = λ d was. stays_silent c.loop-end.blocks c.hush_end.new.blocks (slice_index_or c.args.muted.now c.loop-end.end-index no_end) c.hush_end.ensures.writes c.hush_end.ensures.silent d (c.loop-end.invariant.kept d was);
  others = λ d not_in.
      c.hush_end.ensures.writes.others d (λ same. not_in (subst (λ (e : End). IsIn e c.args.muted.now) (sym same) (IsIn-get_or c.args.muted.now c.loop-end.end-index no_end c.loop-end-test.true))) ∙ c.loop-end.invariant.others d not_in;
  silent = silent_more c.loop-end.blocks c.hush_end.new.blocks c.args.muted.now c.loop-end.end-index no_end c.hush_end.ensures.writes c.hush_end.ensures.silent c.loop-end-test.true c.loop-end.invariant.silent;
}
