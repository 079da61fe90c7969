use Rattle.std.proofs.Common.{ℕ, List, ◌≡◌, ◌<◌, ◌≤◌, ◌+◌, ◌^◌, length, map, take}
use Rattle.std.specs.Prelude.{slice_index_or}
use Rattle.std.specs.List.{sum_by}
use Rattle.law_base.specs.Members.{IsIn}
use Rattle.meaning.specs.declared.params.Param.{Param}
use Rattle.automation.specs.Levels.{LevelView}
use Rattle.automation.specs.Ready.{AllRest, Rests, RunningView, Stands, param_of}
use Rattle.automation.proofs.Running.{cost_at}
use Rattle.automation.proofs.automation.reseek_each.Given as goal

abbrev pub invariant-loop-k : goal.invariant-loop-k
invariant-loop-k g l = record {
  same : map param_of l.running ≡ map param_of l.fn.running;
  -- those that are still to come are as they were
  ahead : (j : ℕ) (r : RunningView) → l.k ≤ j → slice_index_or l.running j r ≡ slice_index_or l.fn.running j r;
  stands : (j : ℕ) (r : RunningView) → j < l.k → Stands l.params l.first (slice_index_or l.running j r);
  rests : (levels : List LevelView) → AllRest l.frames l.params l.first levels l.fn.running → (j : ℕ) (r : RunningView) → j < l.k → Rests l.frames l.params l.first levels (slice_index_or l.running j r);
  cost : (digits : Param → ℕ) → ((p : Param) → IsIn p l.params → length p.line.events < 2 ^ digits p) → l.steps ≤ l.fn.steps + sum_by (cost_at digits l.params) (take l.k (map param_of l.fn.running));
}
