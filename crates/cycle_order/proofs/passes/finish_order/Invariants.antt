use Rattle.std.proofs.Common.{ℕ, ◌≡◌, ◌<◌, [], true}
use Rattle.cycle_order.specs.Passes.{IsPassing}
use Rattle.cycle_order.specs.Reach.{is_marked}
use Rattle.cycle_order.proofs.passes.finish_order.Given as goal

abbrev pub invariant-loop-start : goal.invariant-loop-start
invariant-loop-start l = record {
  passing : IsPassing l.arrows l.pass.marks.items l.pass.next.items l.pass.stack.items l.pass.order.items;
  empty : l.pass.stack.items ≡ [];
  met : (v : ℕ) → v < l.start → is_marked l.pass.marks.items v ≡ true;
}
