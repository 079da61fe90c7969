use Rattle.std.proofs.Common.{◌≡◌, ◌++◌, drop}
use Rattle.control_side.specs.Turns.{ended_lines}
use Rattle.control_side.proofs.ends.ended_lines.Given as goal

abbrev pub invariant-loop-play : goal.invariant-loop-play
invariant-loop-play l = l.lines.items ++ ended_lines l.book.first_names l.now (drop l.play-index l.plays) ≡ ended_lines l.book.first_names l.now l.plays
