use Rattle.std.proofs.Common.{pos, ◌≡◌, ◌-◌, ◌≤◌, ◌+ℤ◌, ◌*ℤ◌, length}
use Rattle.param_cursor.specs.Cursors.{IsDrawn}
use Rattle.param_cursor.specs.Lanes.{AreLanes}
use Rattle.param_cursor.specs.Rising.{numerator_on, value_on}
use Rattle.param_cursor.proofs.drawing.draw_lanes.Given as goal

-- the frames so far, and the lanes of the next
abbrev pub invariant-loop-m : goal.invariant-loop-m
invariant-loop-m l = record {
  begun : l.at ≤ l.m;
  within : l.m ≤ l.end;
  length : length l.out ≡ length l.fn.out;
  drawn : IsDrawn l.fn.out l.out l.at l.m (λ m. value_on l.from l.slope (m - l.at));
  lanes : AreLanes l.lanes (l.from *ℤ pos l.slope.divisor +ℤ numerator_on l.slope (l.m - l.at)) l.slope.step l.slope.divisor;
}

abbrev pub decreases-loop-m : goal.decreases-loop-m
decreases-loop-m l = l.end - l.m
