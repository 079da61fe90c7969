use Rattle.std.proofs.Common.{◌≡◌, take}
use Rattle.node_table.specs.Filters.{dot}
use Rattle.shaper_iir.proofs.sums.small_dot.Given as goal

-- the sum so far
abbrev pub invariant-loop-i : goal.invariant-loop-i
invariant-loop-i l = l.sum ≡ dot (take l.i l.coefficients) l.items
