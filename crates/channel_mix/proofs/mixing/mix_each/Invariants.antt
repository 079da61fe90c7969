use Rattle.std.proofs.Common.{◌*◌}
use Rattle.channel_mix.proofs.Mixed.{mixed_at}
use Rattle.channel_mix.proofs.Growing.{AddsBelow}
use Rattle.channel_mix.proofs.mixing.mix_each.Given as goal

abbrev pub invariant-loop-channel : goal.invariant-loop-channel
invariant-loop-channel l = AddsBelow (mixed_at l.interp l.from l.to l.frames l.src) (l.channel * l.frames) l.initial.acc l.acc
