use Rattle.wa_base.specs.Numbers.{scale}
use Rattle.lane_kern.specs.Blocks.{at}
use Rattle.lane_kern.proofs.Made.{MadeBelow}
use Rattle.lane_kern.proofs.gain_into.Given as goal

abbrev pub invariant-loop-k : goal.invariant-loop-k
invariant-loop-k l = MadeBelow (λ k. scale (at l.src k) (at l.gain k)) l.k l.initial.out l.out
