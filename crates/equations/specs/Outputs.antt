-- A channel that an output has.
use Rattle.std.specs.Prelude.{◌≡◌, ◌<◌, ◌/◌, false}
use Rattle.conn_graph.specs.Ends.{muted}
use Rattle.explain.specs.Facts.{HasOutput}
use Rattle.explain.specs.declared.facts.Key.TheVariants.{Count}
use Rattle.derivations.specs.declared.places.Context.{Context}
use Rattle.derivations.specs.Contexts.{world_of, StandsIn, HasFrame}
use Rattle.equations.specs.declared.outputs.Sample.{Sample}
use Rattle.equations.specs.Given.{meaning_of}

-- its output is there and its end not muted, it is one of the channels, and their number is known
pub record IsPresent (x : Context) (s : Sample) : Type 0 where
  pub there : HasFrame x s.frame
  pub output : HasOutput (world_of x s.frame) s.end s.output
  pub loud : muted (world_of x s.frame).graph.value s.end ≡ false
  pub counted : StandsIn x (Count (s.frame / x.quantum) s.end s.output)
  pub channel : s.channel < (meaning_of x).counts (s.frame / x.quantum) s.end
