use Rattle.channel_mix.proofs.Spreading.{IsSpread}
use Rattle.channel_mix.proofs.widening.widen.Given as goal

abbrev pub invariant-loop-channel : goal.invariant-loop-channel
invariant-loop-channel l = IsSpread l.interp l.frames l.count l.channel l.initial.sums l.sums

abbrev pub decreases-loop-channel : goal.decreases-loop-channel
decreases-loop-channel l = l.channel
