use Rattle.std.proofs.Common.{ℕ, ℤ, pos, ◌≡◌, ◌+ℤ◌, ◌*ℤ◌, length}
use Rattle.param_cursor.specs.Lanes.{AreParts, AreLanes}
use Rattle.param_cursor.proofs.lanes.Lanes.advance.Given as goal

-- the parts so far
abbrev pub invariant-loop-i : goal.invariant-loop-i
invariant-loop-i l = record {
  values : length l.values ≡ 8;
  rests : length l.rests ≡ 8;
  so_far : (start step : ℤ) → (divisor : ℕ) → AreLanes l.self start step divisor → AreParts l.values l.rests (start +ℤ step *ℤ pos 8) step divisor l.i;
}
