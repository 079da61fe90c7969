use Rattle.std.proofs.Common.{◌≡◌, ◌≤◌, take, length, vec_capacity}
use Rattle.meaning.proofs.params.copy_all.Given as goal

abbrev pub invariant-loop-param : goal.invariant-loop-param
invariant-loop-param l = (l.copies.items ≡ take l.param-index l.params) × (length l.params ≤ vec_capacity l.copies)
