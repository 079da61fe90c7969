use Rattle.std.proofs.Common.{◌≡◌, ◌-◌, ◌≤◌, length}
use Rattle.param_cursor.specs.Cursors.{IsDrawn}
use Rattle.param_cursor.specs.Rising.{numerator_on, value_on}
use Rattle.param_cursor.proofs.drawing.draw_singly.Given as goal

abbrev pub invariant-loop-m : goal.invariant-loop-m
invariant-loop-m l = record {
  begun : l.at ≤ l.m;
  length : length l.out ≡ length l.fn.out;
  drawn : IsDrawn l.fn.out l.out l.at l.m (λ m. value_on l.from l.fn.slope (m - l.at));
  numerator : l.on.numerator ≡ numerator_on l.fn.slope (l.m - l.at);
  step : l.on.step ≡ l.fn.slope.step;
  divisor : l.on.divisor ≡ l.fn.slope.divisor;
}
