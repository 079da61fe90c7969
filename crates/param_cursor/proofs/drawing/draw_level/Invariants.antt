use Rattle.param_cursor.specs.Cursors.{IsDrawn}
use Rattle.param_cursor.proofs.drawing.draw_level.Given as goal

abbrev pub invariant-loop-m : goal.invariant-loop-m
invariant-loop-m l = IsDrawn l.fn.out l.out l.at l.m (λ m. l.value)
