use Rattle.std.proofs.Common.{◌≡◌, map}
use Rattle.std.specs.List.{range_with_len}
use Rattle.cycle_order.specs.Reach.{reaches_itself}
use Rattle.cycle_order.proofs.reaching.led_back.Given as goal

abbrev pub invariant-loop-v : goal.invariant-loop-v
invariant-loop-v l = l.marks.items ≡ map (reaches_itself l.arrows) (range_with_len 0 l.v)
