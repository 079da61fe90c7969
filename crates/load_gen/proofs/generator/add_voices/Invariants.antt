use Rattle.std.proofs.Common.{◌≡◌, ◌*◌}
use Rattle.load_gen.specs.Generator.{Adds}
use Rattle.load_gen.specs.Voices.{ops_of_voices, state_after}
use Rattle.load_gen.proofs.generator.add_voices.Given as goal

abbrev pub invariant-loop-place : goal.invariant-loop-place
invariant-loop-place l = record {
  state : l.random.state ≡ state_after (4 * l.place) l.number;
  calls : Adds 0 (ops_of_voices l.number l.place) l.fn.calls l.calls;
}
