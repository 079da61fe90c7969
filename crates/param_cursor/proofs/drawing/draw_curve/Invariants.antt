use Rattle.std.proofs.Common.{◌+◌, ◌-◌, ◌≤◌, ◌≡◌, length}
use Rattle.param_events.specs.Values as meant
use Rattle.param_cursor.specs.Cursors.{IsDrawn}
use Rattle.param_cursor.proofs.drawing.draw_curve.Given as goal

abbrev pub invariant-loop-m : goal.invariant-loop-m
invariant-loop-m l = IsDrawn l.fn.out l.out l.at l.m (λ m. meant.curve_value l.points l.duration (l.n + (m - l.at))) × (l.at ≤ l.m) × (l.m ≤ l.end) × (length l.out ≡ length l.fn.out)

abbrev pub decreases-loop-m : goal.decreases-loop-m
decreases-loop-m l = l.end - l.m
