use Rattle.std.proofs.Common.{◌≡◌, true, Some, sym, ◌∙◌, ap}
use Rattle.node_table.specs.Kinds.{row}
use Rattle.sched_source.specs.Schedule.{plays_at}
use Rattle.meaning.specs.World.{kind_of, find_play, samples_in}
use Rattle.meaning.proofs.FirstItems.{found_is_in}
use Rattle.equations.proofs.Playing.{buffer_there, channel_there, content_long, samples_long, samples_past, sounds_by, sample_some, silent}
use Rattle.equations.proofs.sources.played_at.Goals as goal

pub shape-requires : goal.shape-requires
shape-requires c =
    buffer_there c.args.world.now.store (row (kind_of c.args.world.now c.at-play.result.now.id.0)).plays c.at-play.result.now c.in-Some-buffer.buffer
    (c.requires.valid.scheds.kinds c.at-play.result.now (found_is_in c.args.world.now.scheds.items c.in-Some.place c.at-play.result.now c.at-play.ensures)) c.in-Some-buffer.is

pub returns-then-channel-shape : goal.returns-then-channel-shape
returns-then-channel-shape c =
    let found : find_play c.args.world.now.scheds.items c.args.node.0 ≡ Some c.at-play.result.now = sym c.in-Some.ensures.item ∙ c.at-play.ensures in
    silent c.at-play.result.now.sched (samples_in c.args.world.now.store c.at-play.result.now.buffer c.args.channel) c.args.frame
    (ap (λ o. samples_in c.args.world.now.store o c.args.channel) c.in-Some-buffer.is ∙ samples_past c.args.world.now.store c.requires.valid.store c.in-Some-buffer.buffer c.args.channel c.shape.result c.shape.ensures.value c.if-channel-shape.true)
    ∙ sample_some c.args.world.now c.args.node.0 c.args.channel c.args.frame c.at-play.result.now found

pub channel-requires : goal.channel-requires
channel-requires c = record {
  there =
      channel_there c.args.world.now.store c.requires.valid.store c.in-Some-buffer.buffer c.args.channel c.shape.result c.shape.ensures.value c.if-channel-shape.false
      (buffer_there c.args.world.now.store (row (kind_of c.args.world.now c.at-play.result.now.id.0)).plays c.at-play.result.now c.in-Some-buffer.buffer (c.requires.valid.scheds.kinds c.at-play.result.now (found_is_in c.args.world.now.scheds.items c.in-Some.place c.at-play.result.now c.at-play.ensures)) c.in-Some-buffer.is);
}

pub play-requires-clause-channel : goal.play-requires-clause-channel
play-requires-clause-channel c =
    let found : find_play c.args.world.now.scheds.items c.args.node.0 ≡ Some c.at-play.result.now = sym c.in-Some.ensures.item ∙ c.at-play.ensures in
    let on : plays_at c.at-play.result.now.sched c.args.frame ≡ true = sym (sounds_by c.args.world.now c.args.node.0 c.args.frame c.at-play.result.now found) ∙ sym c.sounds.ensures ∙ c.if-not-sounds.false in
    content_long c.args.world.now.store (row (kind_of c.args.world.now c.at-play.result.now.id.0)).plays c.at-play.result.now c.in-Some-buffer.buffer c.channel.result c.args.frame (c.requires.valid.scheds.kinds c.at-play.result.now (found_is_in c.args.world.now.scheds.items c.in-Some.place c.at-play.result.now c.at-play.ensures)) c.in-Some-buffer.is on
    (samples_long c.args.world.now.store c.requires.valid.store c.in-Some-buffer.buffer c.args.channel c.shape.result c.channel.result c.shape.ensures.value c.if-channel-shape.false c.channel.ensures.value)
