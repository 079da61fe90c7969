use Rattle.std.proofs.Common.{◌+◌, ◌*◌, length}
use Rattle.script_text.proofs.CallSteps.{IsWritten}
use Rattle.script_text.proofs.calls.+calls.Given as goal

abbrev pub decreases-push_list : goal.decreases-push_list
decreases-push_list l = 3 * length l.calls.now

abbrev pub decreases-push_call : goal.decreases-push_call
decreases-push_call l = 3 * length l.after.now + 2

abbrev pub decreases-push_then : goal.decreases-push_then
decreases-push_then l = 3 * length l.calls.now + 1

abbrev pub invariant-push_list-loop-call : goal.invariant-push_list-loop-call
invariant-push_list-loop-call l = IsWritten l.rate l.holder l.calls l.rest l.later l.initial.out.items l.out.items

abbrev pub decreases-push_list-loop-call : goal.decreases-push_list-loop-call
decreases-push_list-loop-call l = length l.rest
