-- What leads to a node at a frame, by the marks of the world there.
use Rattle.std.proofs.Common.{ℕ, ◌≡◌, ◌*◌, ◌/◌, ◌<◌, length, List, [], All, Bool, true, false, refl, sym, ◌∙◌, ap, ap₂, subst}
use Rattle.std.specs.Prelude.{slice_index_or, if◌then◌else◌}
use Rattle.law_base.specs.Members.{IsIn}
use Rattle.wa_base.specs.declared.graph_names.ParamName.{ParamName}
use Rattle.conn_graph.specs.declared.edges.Edge.{Edge}
use Rattle.conn_graph.specs.declared.edges.Target.TheVariants.{Param}
use Rattle.conn_graph.specs.Ends.{reader_of}
use Rattle.meaning.specs.declared.world.World.{World}
use Rattle.meaning.specs.World.{sounding, param_id, is_k_rate}
use Rattle.meaning.specs.Validity.{IsValid}
use Rattle.meaning.specs.Counts.{world_in}
use Rattle.meaning.specs.Values.{world_at}
use Rattle.explain.specs.Accounts.{Account}
use Rattle.explain.specs.Facts.{HasOutput}
use Rattle.derivations.specs.declared.tape.Stretch.{Stretch}
use Rattle.derivations.specs.Groups.{arriving, input_of, edge_group, source_keys, inlet_group, param_frame, param_group}
use Rattle.derivations.specs.Stretches.{IsInForce}
use Rattle.derivations.proofs.Marked.{into_low, into_are}
use Rattle.derivations.proofs.Worlds.{world_is, valid_there, nodes_are, sources_there, quantum_of_first}

module _ (tape : List World) (valid : All IsValid tape) (j n : ℕ) (s : Stretch) (force : IsInForce tape j s) (there : n < length (world_in tape j).nodes) where
  is : world_in tape j ≡ sounding s.piece.world
  is = world_is tape j s.piece.world force.there

  valid_world : IsValid s.piece.world
  valid_world = valid_there tape valid j s.piece.world force.there

  low : n < length s.piece.world.graph.value.nodes
  low = subst (λ k. n < k) (ap (λ (w : World). length w.nodes) is ∙ sym (nodes_are s.piece.world valid_world)) there

  -- the connections that are kept for the node are those that arrive there
  pub kept_low : n < length s.marks.into
  kept_low = into_low s.piece.world.graph.value s.marks force.marks n low

  pub arriving_are : arriving (world_in tape j).graph.value n ≡ slice_index_or s.marks.into n []
  arriving_are = ap (λ (w : World). arriving w.graph.value n) is ∙ sym (into_are s.piece.world.graph.value s.marks force.marks n low)

  -- and each comes from an output that is there
  pub sources_are : (x : Edge) → IsIn x (slice_index_or s.marks.into n []) → HasOutput (world_in tape j) (reader_of x.from.0) x.output
  sources_are x is_in =
      subst (λ (w : World). HasOutput w (reader_of x.from.0) x.output) (sym is)
      (sources_there s.piece.world valid_world n x (subst (IsIn x) (into_are s.piece.world.graph.value s.marks force.marks n low) is_in))

module _ (q : ℕ) (tape : List World) (valid : All IsValid tape) (f n : ℕ) (s : Stretch) (force : IsInForce tape (f / q) s) (there : n < length (world_at q tape f).nodes)
    (edges : List Edge) (kept : edges ≡ slice_index_or s.marks.into n []) where
  pub sources_in : (x : Edge) → IsIn x edges → HasOutput (world_at q tape f) (reader_of x.from.0) x.output
  sources_in x h = sources_are tape valid (f / q) n s force there x (subst (λ (es : List Edge). IsIn x es) kept h)

  edges_are : arriving (world_at q tape f).graph.value n ≡ edges
  edges_are = arriving_are tape valid (f / q) n s force there ∙ sym kept

  -- so the groups of an input are those of the kept connections
  pub inlet_groups : (i : ℕ) (a : Account) (g : ℕ) → inlet_group q tape a f n i g ≡ edge_group (input_of n i) (source_keys q tape a f) edges g
  inlet_groups i a g = ap (λ (es : List Edge). edge_group (input_of n i) (source_keys q tape a f) es g) edges_are

  -- and those of a parameter
  pub taken_is : (name : ParamName) (taken : ℕ) → taken ≡ (if is_k_rate (sounding s.piece.world) (param_id n name) then q * (f / q) else f) → taken ≡ param_frame q tape f n name
  taken_is name taken is = is ∙ ap (λ (w : World). if is_k_rate w (param_id n name) then q * (f / q) else f) (sym (world_is tape (f / q) s.piece.world force.there))

  pub param_groups : (name : ParamName) (taken : ℕ) → taken ≡ param_frame q tape f n name
      → (a : Account) (g : ℕ) → param_group q tape a f n name g ≡ edge_group (Param (param_id n name)) (source_keys q tape a taken) edges g
  param_groups name taken same a g = ap₂ (λ (t : ℕ) (es : List Edge). edge_group (Param (param_id n name)) (source_keys q tape a t) es g) (sym same) edges_are

-- a parameter takes its connections in the quantum of the frame
pub quantum_of_taken : (q : ℕ) (tape : List World) (f n : ℕ) (name : ParamName) → 0 < q → param_frame q tape f n name / q ≡ f / q
quantum_of_taken q tape f n name some = by_rate (is_k_rate (world_at q tape f) (param_id n name))
  where
    by_rate : (b : Bool) → (if b then q * (f / q) else f) / q ≡ f / q
    by_rate true = quantum_of_first q (f / q) some
    by_rate false = refl
