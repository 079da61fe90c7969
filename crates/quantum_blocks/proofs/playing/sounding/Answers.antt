use Rattle.std.proofs.Common.{sym, ◌∙◌, ap}
use Rattle.std.specs.ControlFlow.{continue_value}
use Rattle.wa_base.specs.Contexts.{quantum_of}
use Rattle.node_table.specs.Kinds.{row}
use Rattle.meaning.specs.World.{kind_of}
use Rattle.meaning.proofs.FirstItems.{found_is_in}
use Rattle.quantum_blocks.proofs.Heard.{heard_is, heard_started}
use Rattle.quantum_blocks.proofs.playing.sounding.Goals as goal

pub invariant_of-result : goal.invariant_of-result
invariant_of-result c =
    heard_is c.args.world.now.store (row (kind_of c.args.world.now c.at-play.result.now.id.0)).plays c.at-play.result.now c.in_ok-buffer.buffer
    (c.requires.valid.scheds.kinds c.at-play.result.now (found_is_in c.args.world.now.scheds.items c.in_ok-place.place c.at-play.result.now c.at-play.ensures)) c.requires.valid.store
    (heard_started (quantum_of c.args.world.now.spec) c.at-play.result.now.sched c.args.first (sym c.plays_in.ensures ∙ c.if-not-plays_in.false)) (c.branch-buffer.ensures ∙ ap continue_value c.in_ok-buffer.is)
