use Rattle.std.proofs.Common.{◌≡◌, ◌++◌, map, take, drop, length}
use Rattle.meaning.specs.Automation.{slot_set}
use Rattle.meaning.proofs.params.Listed+Param.set_slots.Given as goal

abbrev pub invariant-loop-place : goal.invariant-loop-place
invariant-loop-place l = record {
  same : length l.self.items ≡ length l.fn.self.items;
  so_far : l.self.items ≡ map (slot_set l.first) (take l.place l.fn.self.items) ++ drop l.place l.fn.self.items;
}
