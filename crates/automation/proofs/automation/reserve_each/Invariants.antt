use Rattle.std.proofs.Common.{ℕ, ◌≡◌, ◌<◌, length}
use Rattle.std.specs.Prelude.{slice_index_or}
use Rattle.meaning.specs.declared.params.Param.{Param}
use Rattle.automation.specs.Levels.{HasRoom, level_of}
use Rattle.automation.proofs.automation.reserve_each.Given as goal

abbrev pub invariant-loop-param : goal.invariant-loop-param
invariant-loop-param l = record {
  long : length l.levels ≡ length l.initial.levels;
  room : (j : ℕ) (p : Param) → j < l.param-index → HasRoom l.frames (level_of l.levels (slice_index_or l.params j p).id.node.0);
}
