-- The piece that is in force in a quantum, and what its marks say.
use Rattle.std.proofs.Common.{ℕ, ◌≡◌, ◌<◌, ◌≤◌, length, [], filter, Some, sym, ◌∙◌, ap, subst}
use Rattle.std.specs.Prelude.{slice_index_or}
use Rattle.conn_graph.specs.Cells.{enters}
use Rattle.node_table.specs.Nodes.{attrs_at, kind_at}
use Rattle.node_table.specs.declared.kinds.Kind.{Kind}
use Rattle.node_table.specs.declared.nodes.Attrs.{Attrs}
use Rattle.meaning.specs.declared.world.World.{World}
use Rattle.meaning.specs.World.{sounding, node_at, kind_of}
use Rattle.meaning.specs.Counts.{world_in}
use Rattle.meaning.specs.Validity.{IsValid}
use Rattle.meaning.proofs.NodeKinds.{attrs_are, kind_is}
use Rattle.derivations.specs.declared.places.Context.{Context}
use Rattle.derivations.specs.declared.tape.Stretch.{Stretch}
use Rattle.derivations.specs.Contexts.{tape_in}
use Rattle.derivations.specs.Stretches.{IsInForce}
use Rattle.derivations.proofs.Inlets.{kept_low, arriving_are}
use Rattle.derivations.proofs.Worlds.{world_is, valid_there}
use Rattle.equations.specs.Given.{IsGiven}

module _ (x : Context) (given : IsGiven x) (j : ℕ) (s : Stretch) (in_force : IsInForce (tape_in x) j s) where
  abbrev pub w : World
  w = s.piece.world

  pub valid : IsValid w
  valid = valid_there (tape_in x) given.ready.regular.valid j w in_force.there

  pub is : world_in (tape_in x) j ≡ sounding w
  is = world_is (tape_in x) j w in_force.there

  -- a node of the world is one of the piece
  pub node_low : (n : ℕ) → n < length (world_in (tape_in x) j).nodes → n < length w.nodes
  node_low n low = subst (λ (y : World). n < length y.nodes) is low

  pub into_low : (n : ℕ) → n < length (world_in (tape_in x) j).nodes → n < length s.marks.into
  into_low n low = kept_low (tape_in x) given.ready.regular.valid j n s in_force low

  -- the connections that lead to it
  pub into_is : (n : ℕ) → n < length (world_in (tape_in x) j).nodes → slice_index_or s.marks.into n [] ≡ filter (enters n) (world_in (tape_in x) j).graph.value.edges
  into_is n low = sym (arriving_are (tape_in x) given.ready.regular.valid j n s in_force low)

  pub edges_few : length (world_in (tape_in x) j).graph.value.edges ≤ 8192
  edges_few = subst (λ (y : World). length y.graph.value.edges ≤ 8192) (sym is) valid.graph.few

  -- its attributes and its kind
  pub attrs : (n : ℕ) (a : Attrs) → n < length (world_in (tape_in x) j).nodes → attrs_at w.nodes n ≡ Some a → (node_at (world_in (tape_in x) j) n).attrs ≡ a
  attrs n a low found = ap (λ (y : World). (node_at y n).attrs) is ∙ attrs_are w n a (node_low n low) found

  pub kind : (n : ℕ) (k : Kind) → n < length (world_in (tape_in x) j).nodes → kind_at w.nodes n ≡ Some k → kind_of (world_in (tape_in x) j) n ≡ k
  kind n k low found = ap (λ (y : World). kind_of y n) is ∙ kind_is w n k (node_low n low) found
