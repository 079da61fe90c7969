-- An end of the world that is in force, by the row of its node's kind.
use Rattle.std.proofs.Common.{ℕ, ◌≡◌, ◌<◌, length, Bool, true, false, Some, sym, ◌∙◌, ap, subst}
use Rattle.std.specs.Prelude.{◌&&◌, not}
use Rattle.wa_base.specs.declared.graph_names.End.{End}
use Rattle.law_base.specs.Members.{IsIn}
use Rattle.node_table.specs.Kinds.{row, is_delay_kind}
use Rattle.node_table.specs.Nodes.{kind_at}
use Rattle.node_table.specs.Rows.{is_written}
use Rattle.node_table.specs.declared.kinds.Kind.{Kind}
use Rattle.node_table.specs.declared.rows.Channels.{Channels}
use Rattle.node_table.specs.declared.rows.Row.{Row}
use Rattle.conn_graph.specs.Ends.{ends, muted}
use Rattle.meaning.specs.declared.world.World.{World}
use Rattle.meaning.specs.World.{kind_of}
use Rattle.meaning.specs.Counts.{world_in}
use Rattle.derivations.specs.declared.places.Context.{Context}
use Rattle.derivations.specs.declared.tape.Stretch.{Stretch}
use Rattle.derivations.specs.Contexts.{tape_in}
use Rattle.derivations.specs.Stretches.{IsInForce}
use Rattle.derivations.proofs.Counted.{delay_is, channels_are, node_there}
use Rattle.equations.specs.Given.{IsGiven}
use Rattle.equations.proofs.InForce.{is, kind}

-- the end of a delay that is not its writer is its reader
pub both_are : (a b : Bool) → a ≡ true → not b ≡ true → (a && not b) ≡ true
both_are true b h reader = reader
both_are false b h reader = absurd cc

module _ (x : Context) (given : IsGiven x) (j : ℕ) (s : Stretch) (force : IsInForce (tape_in x) j s) (e : End) (there : IsIn e (ends (world_in (tape_in x) j).graph.value)) where
  abbrev w : World
  w = world_in (tape_in x) j

  pub node_in : e.node.0 < length w.nodes
  node_in = subst (λ (y : World). e.node.0 < length y.nodes) (sym (is x given j s force)) (node_there x.quantum (tape_in x) given.ready.regular j e s force there)

  -- whether it is muted is what the piece says
  pub muted_here : (t b : Bool) → t ≡ muted s.piece.world.graph.value e → t ≡ b → muted w.graph.value e ≡ b
  muted_here t b told same = ap (λ (y : World). muted y.graph.value e) (is x given j s force) ∙ sym told ∙ same

  module _ (k : Kind) (found : kind_at s.piece.world.nodes e.node.0 ≡ Some k) where
    kind_here : kind_of w e.node.0 ≡ k
    kind_here = kind x given j s force e.node.0 k node_in found

    pub delay_here : (r : Row) (t b : Bool) → r ≡ row k → t ≡ is_written r.keeps → t ≡ b → is_delay_kind (kind_of w e.node.0) ≡ b
    delay_here r t b made written same = delay_is (kind_of w e.node.0) k r t b kind_here made written same

    pub channels_here : (r : Row) (c : Channels) → r ≡ row k → r.channels ≡ c → (row (kind_of w e.node.0)).channels ≡ c
    channels_here r c made same = channels_are (kind_of w e.node.0) k r c kind_here made same
