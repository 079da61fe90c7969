use Rattle.std.proofs.Common.{◌≤◌, ◌-◌, length, take}
use Rattle.std.specs.Io.KnownBytes.{Appends}
use Rattle.io_edge.proofs.whole.write_all.Given as goal

abbrev pub invariant-loop-at : goal.invariant-loop-at
invariant-loop-at g l = record {
  later : g.T.Sink.faults l.initial.sink ≤ g.T.Sink.faults l.sink;
  within : l.at ≤ length l.text;
  written : Appends (g.T.Sink.written l.initial.sink) (g.T.Sink.written l.sink) (take l.at l.text);
}

abbrev pub decreases-loop-at : goal.decreases-loop-at
decreases-loop-at g l = length l.text - l.at
