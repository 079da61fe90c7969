-- What is known where the needs of a key are, by its form; and a fact by its parts.
use Rattle.std.proofs.Common.{ℕ, ℤ, ◌≡◌, List, Option, sym, ◌∙◌, ap}
use Rattle.wa_base.specs.declared.graph_names.End.{End}
use Rattle.wa_base.specs.declared.graph_names.NodeId.{NodeId}
use Rattle.wa_base.specs.declared.graph_names.ParamName.{ParamName}
use Rattle.conn_graph.specs.Graph.{edges_to_input}
use Rattle.explain.specs.declared.facts.Key.{Key}
use Rattle.explain.specs.declared.facts.Key.TheVariants.{Count, Inlet, Par, Hist, Out}
use Rattle.explain.specs.declared.facts.Fact.{Fact}
use Rattle.explain.specs.Accounts.{value_by_equation, cells_in, derived}
use Rattle.explain.specs.Needs.{connections_needs, param_needs, count_needs, history_needs, output_needs, needs}
use Rattle.derivations.specs.declared.places.Context.{Context}
use Rattle.derivations.specs.Contexts.{tape_in, world_of}
use Rattle.equations.specs.Given.{meaning_of, AllKnown}

module _ (x : Context) where
  pub count_known : (j : ℕ) (e : End) (o : ℕ) → AllKnown x (needs x.quantum (tape_in x) (meaning_of x) (Count j e o)) → AllKnown x (count_needs x.quantum (tape_in x) (meaning_of x) j e)
  unfolding needs
  count_known j e o known = known

  pub inlet_known : (f : ℕ) (e : End) (i c : ℕ) → AllKnown x (needs x.quantum (tape_in x) (meaning_of x) (Inlet f e i c))
      → AllKnown x (connections_needs x.quantum (tape_in x) (meaning_of x) f (edges_to_input (world_of x f).graph.value e.node.0 i))
  unfolding needs
  inlet_known f e i c known = known

  pub param_known : (f : ℕ) (node : NodeId) (name : ParamName) → AllKnown x (needs x.quantum (tape_in x) (meaning_of x) (Par f node name)) → AllKnown x (param_needs x.quantum (tape_in x) (meaning_of x) f node.0 name)
  unfolding needs
  param_known f node name known = known

  pub history_known : (f : ℕ) (node : NodeId) (c : ℕ) → AllKnown x (needs x.quantum (tape_in x) (meaning_of x) (Hist f node c)) → AllKnown x (history_needs x.quantum (tape_in x) (meaning_of x) f node.0 c)
  unfolding needs
  history_known f node c known = known

  pub output_known : (f : ℕ) (e : End) (o c : ℕ) → AllKnown x (needs x.quantum (tape_in x) (meaning_of x) (Out f e o c)) → AllKnown x (output_needs x.quantum (tape_in x) (meaning_of x) f e o c)
  unfolding needs
  output_known f e o c known = known

  -- the fact that an equation gives, by its parts
  pub fact_is : (k key : Key) (v : ℤ) (cells : Option (List ℤ)) → key ≡ k → v ≡ value_by_equation x.quantum (tape_in x) (meaning_of x) k → cells ≡ cells_in x.quantum (tape_in x) (meaning_of x) k
      → derived x.quantum (tape_in x) (meaning_of x) k ≡ record { key = key; value = v; cells = cells }
  fact_is k key v cells own is left =
      ap (λ y. let f : Fact = record { key = y; value = value_by_equation x.quantum (tape_in x) (meaning_of x) k; cells = cells_in x.quantum (tape_in x) (meaning_of x) k } in f) (sym own)
      ∙ ap (λ y. let f : Fact = record { key = key; value = y; cells = cells_in x.quantum (tape_in x) (meaning_of x) k } in f) (sym is)
      ∙ ap (λ y. let f : Fact = record { key = key; value = v; cells = y } in f) (sym left)
