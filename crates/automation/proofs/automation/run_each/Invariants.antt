use Rattle.std.proofs.Common.{ℕ, ◌≡◌, ◌<◌, ◌≤◌, ◌+◌, ◌^◌, length, map, take}
use Rattle.std.specs.List.{sum_by}
use Rattle.law_base.specs.Members.{IsIn}
use Rattle.meaning.specs.declared.params.Param.{Param}
use Rattle.automation.specs.Ready.{AreRunning, RunningView, Stands, param_of}
use Rattle.automation.proofs.automation.run_each.Given as goal

abbrev pub invariant-loop-i : goal.invariant-loop-i
invariant-loop-i g l = record {
  running : AreRunning l.i l.running.items;
  all : (j : ℕ) → j < l.i → IsIn j (map param_of l.running.items);
  stands : (r : RunningView) → IsIn r l.running.items → Stands l.params l.first r;
  unknown : (r : RunningView) → IsIn r l.running.items → r.until ≡ 0;
  cost : (digits : Param → ℕ) → ((p : Param) → IsIn p l.params → length p.line.events < 2 ^ digits p) → l.steps ≤ l.fn.steps + sum_by digits (take l.i l.params);
}
