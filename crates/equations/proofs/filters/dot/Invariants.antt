use Rattle.std.proofs.Common.{◌≡◌, ◌≤◌, ◌*◌, ◌^◌, take}
use Rattle.std.specs.Prelude.{unsigned_abs}
use Rattle.node_table.specs.Filters.{dot}
use Rattle.equations.proofs.filters.dot.Given as goal

-- the sum so far, and how far it can be from 0
abbrev pub invariant-loop-i : goal.invariant-loop-i
invariant-loop-i l = record {
  value : l.sum ≡ dot (take l.i l.coefficients) l.items;
  small : unsigned_abs l.sum ≤ l.i * 2 ^ 97;
}
