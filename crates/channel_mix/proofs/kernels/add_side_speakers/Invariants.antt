use Rattle.wa_base.specs.Numbers.{rnd}
use Rattle.lane_kern.specs.Blocks.{at}
use Rattle.mix_rules.specs.Mixing.{one}
use Rattle.channel_mix.specs.Outputs.{side_speakers}
use Rattle.channel_mix.proofs.Growing.{AddsBelow}
use Rattle.channel_mix.proofs.kernels.add_side_speakers.Given as goal

abbrev pub invariant-loop-k : goal.invariant-loop-k
invariant-loop-k l = AddsBelow (λ k. rnd (side_speakers (at l.front k) (at l.centre k) (at l.surround k)) one) l.k l.initial.sums l.sums
