use Rattle.std.proofs.Common.{take}
use Rattle.prune_script.proofs.Telling.{IsTold}
use Rattle.prune_script.proofs.deeds.deeds.Given as goal

abbrev pub invariant-loop-line : goal.invariant-loop-line
invariant-loop-line l = IsTold l.calls (take l.line-index l.lines) l.names.bindings l.deeds.items
