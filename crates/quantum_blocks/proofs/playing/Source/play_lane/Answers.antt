use Rattle.std.proofs.Common.{◌<◌, Some, ap, subst, sym, ◌∙◌}
use Rattle.meaning.specs.World.{channels_in}
use Rattle.quantum_blocks.specs.Heard.{SourceView}
use Rattle.quantum_blocks.proofs.Heard.{plays_all}
use Rattle.quantum_blocks.proofs.playing.Source.play_lane.Goals as goal

pub play-requires-clause-channel : goal.play-requires-clause-channel
play-requires-clause-channel c =
    let s : SourceView = record { sched = c.self.inside.sched; store = c.self.inside.store.now; buffer = c.self.inside.buffer } in
    let few : c.args.lane < channels_in s.store (Some s.buffer) =
    subst (λ n. c.args.lane < n) (c.channels.ensures.value ∙ ap (λ (x : SourceView). channels_in x.store (Some x.buffer)) (sym c.self.view_is)) c.if-lane-channels.true in
    plays_all s c.self.invariant c.args.lane c.channel.result few c.channel.ensures.value
