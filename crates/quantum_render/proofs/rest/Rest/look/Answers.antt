use Rattle.std.proofs.Common.{ℕ, ◌+◌, ◌*◌, List, Bool, slice_index_or, refl, sym, ◌∙◌, subst}
use Rattle.wa_base.specs.declared.graph_names.End.{End}
use Rattle.meaning.specs.declared.world.World.{World}
use Rattle.quantum_blocks.proofs.Orders.{no_end}
use Rattle.quantum_render.specs.Idle.{AreIdle}
use Rattle.quantum_render.proofs.Idling.{one_more_idle}
use Rattle.quantum_render.proofs.Steady.{order_there, order_unmuted}
use Rattle.quantum_render.proofs.rest.Rest.look.Goals as goal
use Rattle.quantum_render.proofs.rest.Rest.look.Goals.{then-is_idle, else-is_idle}

pub is_idle-requires-clause-there : goal.is_idle-requires-clause-there
is_idle-requires-clause-there c = order_there c.args.census.now.world.now.graph.value c.args.order.now c.requires.plan.1.legal c.loop-end.end-index c.loop-end-test.true

pub is_idle-requires-clause-unmuted : goal.is_idle-requires-clause-unmuted
is_idle-requires-clause-unmuted c = order_unmuted c.args.census.now.world.now.graph.value c.args.order.now c.requires.plan.1.legal c.loop-end.end-index c.loop-end-test.true

pub loop-end-init : goal.loop-end-init
loop-end-init c = record {
  count = refl;
  idle = λ e in_e marked. absurd (c.unmark.ensures.none e marked);
}

pub loop-end-preserved : goal.loop-end-preserved
loop-end-preserved c = record {
  count = c.if-is_idle.auto.marks ∙ c.loop-end.invariant.count;
  idle = elim c.if-is_idle.branch [
    | then-is_idle b ↦
        let w : World = c.args.census.now.world.now in
        let x : End = slice_index_or c.args.order.now c.loop-end.end-index no_end in
        let until : ℕ = c.args.census.now.first + 32 * c.from.result in
        subst (λ (ms : List Bool). AreIdle w c.args.counts.now c.args.census.now.first until ms c.args.blocks.now) (sym b.marks-is)
        (one_more_idle w c.args.counts.now c.args.census.now.first until c.loop-end.marks b.mark.new.marks c.args.blocks.now x c.loop-end.invariant.idle (c.is_idle.ensures b.if-is_idle.true) b.mark.ensures.kept b.mark.ensures.marked)
    | else-is_idle b ↦
        subst (λ (ms : List Bool). AreIdle c.args.census.now.world.now c.args.counts.now c.args.census.now.first (c.args.census.now.first + 32 * c.from.result) ms c.args.blocks.now) (sym b.marks-is) c.loop-end.invariant.idle
  ];
}
