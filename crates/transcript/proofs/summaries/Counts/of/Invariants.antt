use Rattle.std.proofs.Common.{◌≡◌, ◌≤◌, ◌+◌, drop}
use Rattle.transcript.specs.Summary.{count, is_call, is_end, is_refusal}
use Rattle.transcript.proofs.summaries.Counts.of.Given as goal

abbrev pub invariant-loop-line : goal.invariant-loop-line
invariant-loop-line l = record {
  calls : l.calls + count is_call (drop l.line-index l.lines) ≡ count is_call l.lines;
  ended : l.ended + count is_end (drop l.line-index l.lines) ≡ count is_end l.lines;
  refused : l.refused + count is_refusal (drop l.line-index l.lines) ≡ count is_refusal l.lines;
  few_calls : l.calls ≤ l.line-index;
  few_ended : l.ended ≤ l.line-index;
  few_refused : l.refused ≤ l.line-index;
}
