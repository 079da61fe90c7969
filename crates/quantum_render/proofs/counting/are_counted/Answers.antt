use Rattle.std.proofs.Common.{slice_index_or, sym, ◌∙◌}
use Rattle.wa_base.specs.declared.graph_names.End.{End}
use Rattle.meaning.specs.declared.world.World.{World}
use Rattle.quantum_blocks.proofs.Orders.{no_end}
use Rattle.quantum_blocks.proofs.Sources.{IsIn-get_or, end_low}
use Rattle.quantum_render.specs.Plans.{AsCounted}
use Rattle.quantum_render.proofs.Along.{holds_on, holds_of_all}
use Rattle.quantum_render.proofs.Idling.{idle_counted}
use Rattle.quantum_render.proofs.counting.are_counted.Goals as goal
use Rattle.quantum_render.proofs.counting.are_counted.Goals.{then-is_idle_buffer, else-is_idle_buffer}

pub loop-end-init : goal.loop-end-init
loop-end-init c = λ rest. rest

pub is_idle_buffer-requires : goal.is_idle_buffer-requires
is_idle_buffer-requires c =
    let x : End = slice_index_or c.args.timed.now c.loop-end.end-index no_end in
    end_low c.args.census.now.world.now c.requires.valid x (c.requires.there x (IsIn-get_or c.args.timed.now c.loop-end.end-index no_end c.loop-end-test.true))

pub is_counted-requires-clause-there : goal.is_counted-requires-clause-there
is_counted-requires-clause-there c =
    let x : End = slice_index_or c.args.timed.now c.loop-end.end-index no_end in
    c.requires.there x (IsIn-get_or c.args.timed.now c.loop-end.end-index no_end c.loop-end-test.true)

pub loop-end-preserved : goal.loop-end-preserved
loop-end-preserved c =
    let w : World = c.args.census.now.world.now in
    let x : End = slice_index_or c.args.timed.now c.loop-end.end-index no_end in
    let there = c.requires.there x (IsIn-get_or c.args.timed.now c.loop-end.end-index no_end c.loop-end-test.true) in
    let here : AsCounted c.args.census.now.delays.now w c.args.census.now.first c.args.counts.now x = elim c.if-is_idle_buffer.branch [
      | then-is_idle_buffer b ↦
          let idle = c.is_idle_buffer.ensures b.if-is_idle_buffer.true in
          idle_counted w c.args.census.now.delays.now c.args.counts.now c.args.census.now.first c.args.idle.now c.requires.idle.0 c.requires.idle.1 x there idle.0 idle.1 idle.2
      | else-is_idle_buffer b ↦ b.is_counted.ensures (sym b.value-is ∙ c.if-not-is_counted.false)
    ] in
    holds_on (AsCounted c.args.census.now.delays.now w c.args.census.now.first c.args.counts.now) c.args.timed.now c.loop-end.end-index no_end c.loop-end-test.true here c.loop-end.invariant

pub returns : goal.returns
returns c t = holds_of_all (AsCounted c.args.census.now.delays.now c.args.census.now.world.now c.args.census.now.first c.args.counts.now) c.args.timed.now c.loop-end.end-index c.loop-end-test.false c.loop-end.invariant
