use Rattle.std.proofs.Common.{◌≡◌, ◌≤◌, length, max}
use Rattle.automation.proofs.automation.extend.Given as goal

-- there is a level for each of so many nodes
abbrev pub invariant-loop : goal.invariant-loop
invariant-loop l = record {
  long : length l.levels.items ≡ l.counter;
  more : length l.initial.levels.items ≤ l.counter;
  fewer : l.counter ≤ max (length l.initial.levels.items) l.nodes;
}
