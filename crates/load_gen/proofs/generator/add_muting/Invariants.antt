use Rattle.load_gen.specs.Generator.{Adds, muting_ops}
use Rattle.load_gen.proofs.generator.add_muting.Given as goal

abbrev pub invariant-loop-place : goal.invariant-loop-place
invariant-loop-place l = Adds l.suspension (muting_ops l.place) l.fn.calls l.calls
