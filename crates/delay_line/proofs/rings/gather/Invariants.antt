use Rattle.std.proofs.Common.{◌+◌, ◌-◌, pos}
use Rattle.lane_kern.proofs.Made.{MadeBelow}
use Rattle.delay_line.specs.Lines.{from_end}
use Rattle.delay_line.specs.Spans.{delay_at}
use Rattle.delay_line.proofs.rings.gather.Given as goal

abbrev pub invariant-loop-k : goal.invariant-loop-k
invariant-loop-k l = MadeBelow (λ k. from_end l.ring.items (l.written - (l.first + k - delay_at l.delays k) - 1) (pos 0)) l.k l.initial.out l.out
