use Rattle.std.proofs.Common.{ℕ, ◌≡◌, ◌+◌, length, drop, slice_index_or}
use Rattle.std.specs.Prelude.{vec_len}
use Rattle.script_ast.specs.WellFormed.{AreCallsAfter}
use Rattle.session.specs.Session.{held_by}
use Rattle.session.proofs.replay.list_lengths.Given as goal

abbrev pub invariant-loop-call : goal.invariant-loop-call
invariant-loop-call l = record {
  calls : AreCallsAfter l.call-index (drop l.call-index l.calls);
  long : vec_len l.lengths ≡ length l.calls;
  counted : (holder : ℕ) → slice_index_or l.lengths.items holder 0 + length (held_by holder (drop l.call-index l.calls)) ≡ length (held_by holder l.calls);
}
