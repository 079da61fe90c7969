use Rattle.node_table.specs.Kinds.{row}
use Rattle.meaning.specs.World.{kind_of}
use Rattle.meaning.proofs.FirstItems.{found_is_in}
use Rattle.equations.proofs.Playing.{buffer_there}
use Rattle.equations.proofs.sources.played_channels.Goals as goal

pub shape-requires : goal.shape-requires
shape-requires c =
    buffer_there c.args.world.now.store (row (kind_of c.args.world.now c.at-play.result.now.id.0)).plays c.at-play.result.now c.in-Some-buffer.buffer
    (c.requires.valid.scheds.kinds c.at-play.result.now (found_is_in c.args.world.now.scheds.items c.in-Some.place c.at-play.result.now c.at-play.ensures)) c.in-Some-buffer.is
