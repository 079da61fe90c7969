use Rattle.std.proofs.Common.{◌≡◌, ◌++◌, length}
use Rattle.std.specs.Vec.Iter.{into_iter_items, into_iter_len}
use Rattle.load_gen.specs.Generator.{Adds}
use Rattle.load_gen.proofs.generator.add_all.Given as goal

abbrev pub invariant-loop-op : goal.invariant-loop-op
invariant-loop-op l = (l.yielded ++ into_iter_items l.op-iterator ≡ into_iter_items l.initial.op-iterator)
    × (into_iter_len l.op-iterator ≡ length (into_iter_items l.op-iterator))
    × Adds 0 l.yielded l.fn.calls l.calls
