-- An output and a channel that an end has.
use Rattle.std.specs.Prelude.{ℕ, ◌≡◌, ◌<◌, ◌/◌, length, false, None, Some}
use Rattle.wa_base.specs.declared.graph_names.ParamName.{ParamName}
use Rattle.node_table.specs.Kinds.{row, param_name}
use Rattle.node_table.specs.declared.kinds.Kind.{Kind}
use Rattle.node_table.specs.declared.rows.Keeps.TheVariants.{Nothing}
use Rattle.conn_graph.specs.Ends.{muted}
use Rattle.meaning.specs.declared.world.World.{World}
use Rattle.meaning.specs.World.{kind_of}
use Rattle.explain.specs.Accounts.{Account}
use Rattle.explain.specs.Checked.{AllHold}
use Rattle.explain.specs.Facts.{has_history, HasOutput}
use Rattle.derivations.specs.declared.places.Context.{Context}
use Rattle.derivations.specs.declared.outputs.Sample.{Sample}
use Rattle.derivations.specs.Contexts.{tape_in, world_of}

-- the output is there, its end is not muted, and it has the channel in each account in which the facts hold
pub record IsHeard (x : Context) (s : Sample) : Type 0 where
  pub output : HasOutput (world_of x s.frame) s.end s.output
  pub loud : muted (world_of x s.frame).graph.value s.end ≡ false
  pub channel : (a : Account) → AllHold x.quantum (tape_in x) a x.known.now → s.channel < a.counts (s.frame / x.quantum) s.end
  pub few : s.channel < 32

-- a node has a parameter
pub record HasParam (w : World) (n : ℕ) (name : ParamName) : Type 0 where
  pub node : n < length w.nodes
  pub named : param_name (kind_of w n) ≡ Some name

-- a node that keeps and plays nothing, and has no history: its output is made of its input and of its parameter at the same frame
pub record IsEffect (kind : Kind) : Type 0 where
  pub keeps : (row kind).keeps ≡ Nothing
  pub plays : (row kind).plays ≡ None
  pub history : has_history kind ≡ false
