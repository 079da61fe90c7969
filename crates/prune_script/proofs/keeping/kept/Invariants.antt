use Rattle.std.proofs.Common.{◌≡◌, ◌≤◌, ◌++◌, ℕ, List, length}
use Rattle.std.specs.Vec.Iter.{into_iter_items, into_iter_len}
use Rattle.prune_script.specs.Keeping.{AreKept, TellsHeard}
use Rattle.prune_script.proofs.Holding.{IsHolding}
use Rattle.prune_script.proofs.keeping.kept.Given as goal

abbrev pub invariant-loop-call : goal.invariant-loop-call
invariant-loop-call l = record {
  rest : l.yielded ++ into_iter_items l.call-iterator ≡ l.fn.calls;
  counted : into_iter_len l.call-iterator ≡ length (into_iter_items l.call-iterator);
  few : length l.kept.items ≤ length l.yielded;
  places : length l.places.items ≡ length l.heard;
  kept : (ordinals : List ℕ) → TellsHeard ordinals l.heard → IsHolding ordinals l.yielded × AreKept ordinals l.yielded l.kept.items l.places.items;
}
