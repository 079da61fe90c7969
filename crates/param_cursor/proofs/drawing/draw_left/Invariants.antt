use Rattle.std.proofs.Common.{pos, ◌≡◌, ◌-◌, length, slice_index_or}
use Rattle.param_cursor.specs.Cursors.{IsDrawn}
use Rattle.param_cursor.proofs.drawing.draw_left.Given as goal

abbrev pub invariant-loop-m : goal.invariant-loop-m
invariant-loop-m l = (length l.out ≡ length l.fn.out) × IsDrawn l.fn.out l.out l.at l.m (λ m. slice_index_or l.values (m - l.at) (pos 0))
