use Rattle.std.proofs.Common.{◌≡◌, ◌≤◌, ◌+◌, ◌++◌, length, vec_capacity, vec_len}
use Rattle.std.specs.Vec.Iter.{into_iter_items, into_iter_len}
use Rattle.transcript.proofs.lines.append_reserved.Given as goal

abbrev pub invariant-loop-line : goal.invariant-loop-line
invariant-loop-line l = (l.yielded ++ into_iter_items l.line-iterator ≡ into_iter_items l.initial.line-iterator)
    × (into_iter_len l.line-iterator ≡ length (into_iter_items l.line-iterator))
    × (l.lines.items ≡ l.fn.lines.items ++ l.yielded)
    × (into_iter_len l.line-iterator + vec_len l.lines ≤ vec_capacity l.lines)
    × (vec_capacity l.lines ≡ vec_capacity l.fn.lines)
