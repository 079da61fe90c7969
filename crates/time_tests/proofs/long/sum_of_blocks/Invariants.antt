use Rattle.std.proofs.Common.{◌≡◌, ◌*◌}
use Rattle.param_cursor.specs.Cursors.{place_at}
use Rattle.time_tests.proofs.long.sum_of_blocks.Given as goal

abbrev pub invariant-loop-block : goal.invariant-loop-block
invariant-loop-block g l = l.cursor ≡ place_at (1024 * l.block) l.line.events
