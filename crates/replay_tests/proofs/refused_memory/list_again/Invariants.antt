use Rattle.std.proofs.Common.{drop}
use Rattle.script_ast.specs.WellFormed.{AreCallsAfter}
use Rattle.replay_tests.proofs.refused_memory.list_again.Given as goal

abbrev pub invariant-loop-call : goal.invariant-loop-call
invariant-loop-call l = AreCallsAfter l.call-index (drop l.call-index l.calls)
