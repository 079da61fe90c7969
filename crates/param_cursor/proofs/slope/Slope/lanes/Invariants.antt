use Rattle.std.proofs.Common.{pos, ◌≡◌, ◌+ℤ◌, ◌*ℤ◌, length}
use Rattle.param_cursor.specs.Lanes.{AreParts}
use Rattle.param_cursor.proofs.slope.Slope.lanes.Given as goal

-- the values so far, and the next one
abbrev pub invariant-loop-i : goal.invariant-loop-i
invariant-loop-i l = record {
  values : length l.values ≡ 8;
  rests : length l.rests ≡ 8;
  so_far : AreParts l.values l.rests (l.base *ℤ pos l.self.divisor +ℤ l.self.numerator) l.self.step l.self.divisor l.i;
  next : l.on.numerator ≡ l.self.numerator +ℤ l.self.step *ℤ pos l.i;
  step : l.on.step ≡ l.self.step;
  divisor : l.on.divisor ≡ l.self.divisor;
}
