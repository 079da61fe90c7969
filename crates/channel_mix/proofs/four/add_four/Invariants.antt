use Rattle.channel_mix.proofs.Growing.{AddsBelow}
use Rattle.channel_mix.specs.Sums.{four_at}
use Rattle.channel_mix.proofs.four.add_four.Given as goal

abbrev pub invariant-loop-k : goal.invariant-loop-k
invariant-loop-k l = AddsBelow (four_at l.four) l.k l.initial.sums l.sums
