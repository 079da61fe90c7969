use Rattle.std.proofs.Common.{◌≡◌}
use Rattle.worklet.specs.Processor.{after_silence}
use Rattle.worklet.proofs.processor.hear_silence.Given as goal

abbrev pub invariant-loop : goal.invariant-loop
invariant-loop l = l.cells ≡ after_silence l.program l.initial.cells l.counter
