use Rattle.std.proofs.Common.{pos, ◌+ℤ◌}
use Rattle.wa_base.specs.Numbers.{rnd}
use Rattle.lane_kern.specs.Blocks.{at}
use Rattle.channel_mix.proofs.Growing.{AddsBelow}
use Rattle.channel_mix.proofs.kernels.add_quarters.Given as goal

abbrev pub invariant-loop-k : goal.invariant-loop-k
invariant-loop-k l = AddsBelow (λ k. rnd ((at l.l k +ℤ at l.r k) +ℤ (at l.sl k +ℤ at l.sr k)) (pos 4)) l.k l.initial.sums l.sums
