use Rattle.std.proofs.Common.{◌≡◌, take}
use Rattle.param_events.specs.Pieces.{all}
use Rattle.param_events.proofs.pieces.Events.copy.Given as goal

abbrev pub invariant-loop-piece : goal.invariant-loop-piece
invariant-loop-piece l = all l.pieces.items ≡ all (take l.piece-index l.self-inside.pieces.items)
