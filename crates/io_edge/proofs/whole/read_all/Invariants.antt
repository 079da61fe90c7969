use Rattle.std.proofs.Common.{◌≤◌, vec_len}
use Rattle.std.specs.Io.KnownBytes.{Consumes}
use Rattle.io_edge.proofs.whole.read_all.Given as goal

abbrev pub invariant-loop : goal.invariant-loop
invariant-loop g l = record {
  later : g.S.Source.faults l.initial.source ≤ g.S.Source.faults l.source;
  read : Consumes (g.S.Source.left l.initial.source) (g.S.Source.left l.source) l.bytes.items;
  grown : l.counter ≤ vec_len l.bytes;
  short : vec_len l.bytes ≤ l.limit;
}
