use Rattle.wa_base.specs.Numbers.{sat}
use Rattle.lane_kern.specs.Blocks.{at}
use Rattle.lane_kern.proofs.Made.{MadeBelow}
use Rattle.lane_kern.proofs.sat_into.Given as goal

abbrev pub invariant-loop-k : goal.invariant-loop-k
invariant-loop-k l = MadeBelow (λ k. sat (at l.acc k)) l.k l.initial.out l.out
