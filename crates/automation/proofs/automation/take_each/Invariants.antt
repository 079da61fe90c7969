use Rattle.std.proofs.Common.{ℕ, ◌≡◌, ◌<◌, ◌≤◌, ◌+◌, ◌++◌, length, map, take, drop}
use Rattle.std.specs.Prelude.{slice_index_or}
use Rattle.std.specs.List.{sum_by}
use Rattle.law_base.specs.Members.{IsIn}
use Rattle.meaning.specs.declared.params.Param.{Param}
use Rattle.automation.specs.Levels.{HasRoom, level_of}
use Rattle.automation.specs.Ready.{AllRest, RunningView, RiseWithin, looks_at, param_of}
use Rattle.automation.proofs.Taken.{IsTaken}
use Rattle.automation.proofs.Running.{cost_at}
use Rattle.automation.proofs.automation.take_each.Given as goal

abbrev pub invariant-loop-k : goal.invariant-loop-k
invariant-loop-k g l = record {
  few : l.moving ≤ l.k;
  -- those that are still to come are as they were
  ahead : (j : ℕ) (r : RunningView) → l.k ≤ j → slice_index_or l.running j r ≡ slice_index_or l.fn.running j r;
  rise : RiseWithin 0 (length l.params) (map param_of (take l.moving l.running) ++ drop l.k (map param_of l.fn.running));
  room : (p : Param) → IsIn p l.params → (p.id.node.0 < length l.levels) × HasRoom l.frames (level_of l.levels p.id.node.0);
  rests : AllRest l.frames l.params l.first l.levels (take l.moving l.running ++ drop l.k l.fn.running);
  taken : (i : ℕ) (d : Param) → i < length l.params → IsTaken l.frames l.params l.first l.levels (map param_of l.fn.running) l.k (map param_of (take l.moving l.running)) i d;
  cost : l.steps ≤ l.fn.steps + sum_by (cost_at (looks_at l.frames l.first) l.params) (take l.k (map param_of l.fn.running));
}
