use Rattle.session.proofs.Interleaving.{HoldsChannels}
use Rattle.session.proofs.rendered.Rendered.interleave.Given as goal

abbrev pub invariant-loop-channel : goal.invariant-loop-channel
invariant-loop-channel l = HoldsChannels l.self.samples l.self.spec l.first l.frames l.channel l.piece
