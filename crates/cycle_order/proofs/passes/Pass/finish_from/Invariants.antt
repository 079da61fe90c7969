use Rattle.std.proofs.Common.{ℕ, ◌≡◌, ◌+◌, ◌*◌, length, true}
use Rattle.cycle_order.specs.Passes.{IsPassing, unfollowed}
use Rattle.cycle_order.specs.Reach.{is_marked}
use Rattle.cycle_order.proofs.passes.Pass.finish_from.Given as goal

abbrev pub invariant-loop-vertex : goal.invariant-loop-vertex
invariant-loop-vertex l = record {
  passing : IsPassing l.arrows l.self.marks.items l.self.next.items l.self.stack.items l.self.order.items;
  start : is_marked l.self.marks.items l.start ≡ true;
  kept : (v : ℕ) → is_marked l.fn.self.marks.items v ≡ true → is_marked l.self.marks.items v ≡ true;
}

-- an arrow that is followed puts two vertices onto the stack at most
abbrev pub decreases-loop-vertex : goal.decreases-loop-vertex
decreases-loop-vertex l = 2 * unfollowed l.arrows l.self.next.items + length l.self.stack.items
