use Rattle.wa_base.specs.Numbers.{rnd}
use Rattle.lane_kern.specs.Blocks.{at}
use Rattle.mix_rules.specs.Mixing.{one}
use Rattle.channel_mix.specs.Outputs.{all_speakers}
use Rattle.channel_mix.proofs.Growing.{AddsBelow}
use Rattle.channel_mix.proofs.kernels.add_all_speakers.Given as goal

abbrev pub invariant-loop-k : goal.invariant-loop-k
invariant-loop-k l = AddsBelow (λ k. rnd (all_speakers (at l.l k) (at l.r k) (at l.c k) (at l.sl k) (at l.sr k)) one) l.k l.initial.sums l.sums
