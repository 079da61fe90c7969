-- What the inputs of a part take in, they take in in the whole.
use Rattle.std.proofs.Common.{ℕ, ℤ, pos, ◌≡◌, ◌<◌, length, List, [], ◌∷◌, map, inl, inr, refl, sym, ◌∙◌, ap, ap₂, subst}
use Rattle.std.specs.Prelude.{if◌then◌else◌, nat_lt}
use Rattle.wa_base.specs.declared.graph_names.Interp.{Interp}
use Rattle.wa_base.specs.declared.graph_names.ParamName.{ParamName}
use Rattle.law_base.specs.Members.{IsIn}
use Rattle.law_base.proofs.Members.{IsIn-filter}
use Rattle.mix_rules.specs.Mixing.{mix, fan_in}
use Rattle.node_table.specs.declared.nodes.Node.{Node}
use Rattle.conn_graph.specs.declared.edges.Edge.{Edge}
use Rattle.conn_graph.specs.Edges.{is_input, is_param}
use Rattle.conn_graph.specs.Graph.{edges_to_input, edges_to_param}
use Rattle.conn_graph.specs.Ends.{reader_of, ends, input_end, muted}
use Rattle.conn_graph.proofs.EndOrders.{IsIn-ends}
use Rattle.meaning.specs.World.{node_at, param_id}
use Rattle.meaning.specs.Counts.{input_channels}
use Rattle.meaning.specs.Values.{Frame, part, mixed_sum, input_value, taken_in}
use Rattle.prune.specs.Parts.{Numbering, whole_edge}
use Rattle.prune.proofs.Connected.{Parted, reader_there, source_there, same_input_end, same_inputs}
use Rattle.prune.proofs.Muted.{same_muted}
use Rattle.prune.proofs.Counted.{AgreeOn, same_channels}

-- A frame of a part, and that of the whole: the ends of the part have the same counts and the same values.
pub record IsFrameOf (r : Numbering) (x y : Frame) : Type 0 where
  pub worlds : Parted r x.world y.world
  pub counts : AgreeOn r x.world x.counts y.counts
  pub values : AgreeOn r x.world x.values y.values

module _ (r : Numbering) (x y : Frame) (is : IsFrameOf r x y) where
  -- what connections carry adds up to the same
  pub same_sum : (interp : Interp) (to c : ℕ) (xs : List Edge) → ((e : Edge) → IsIn e xs → IsIn (reader_of e.from.0) (ends x.world.graph.value))
      → mixed_sum x interp to c xs ≡ mixed_sum y interp to c (map (whole_edge r) xs)
  same_sum interp to c xs sources = ap fan_in (each xs sources)
    where
      each : (xs : List Edge) → ((e : Edge) → IsIn e xs → IsIn (reader_of e.from.0) (ends x.world.graph.value)) → map (part x interp to c) xs ≡ map (part y interp to c) (map (whole_edge r) xs)
      each [] h = refl
      each (e ∷ es) h =
          let there = h e (inl refl) in
          ap₂ (λ n ns. n ∷ ns)
          (ap (λ from. mix interp from to (x.values (reader_of e.from.0) e.output) c) (is.counts (reader_of e.from.0) there)
          ∙ ap (λ (values : ℕ → ℕ → ℤ). mix interp (y.counts (reader_of (r e.from.0))) to (values e.output) c) (is.values (reader_of e.from.0) there))
          (each es (λ d k. h d (inr k)))

  input_sources : (n i : ℕ) (e : Edge) → IsIn e (edges_to_input x.world.graph.value n i) → IsIn (reader_of e.from.0) (ends x.world.graph.value)
  input_sources n i e h =
      reader_there r x.world y.world is.worlds e.from.0 (source_there r x.world y.world is.worlds e (IsIn-filter (λ d. is_input n i d.to) x.world.graph.value.edges e h).0)

  pub param_sources : (n : ℕ) (name : ParamName) (e : Edge) → IsIn e (edges_to_param x.world.graph.value (param_id n name)) → IsIn (reader_of e.from.0) (ends x.world.graph.value)
  param_sources n name e h =
      reader_there r x.world y.world is.worlds e.from.0 (source_there r x.world y.world is.worlds e (IsIn-filter (λ d. is_param (param_id n name) d.to) x.world.graph.value.edges e h).0)

  pub same_value : (n i c : ℕ) → n < length x.world.nodes → input_value x n i c ≡ input_value y (r n) i c
  unfolding input_value
  same_value n i c l =
      ap (λ to. if nat_lt c to then mixed_sum x (node_at x.world n).attrs.interp to c (edges_to_input x.world.graph.value n i) else pos 0)
      (same_channels r x.world y.world is.worlds x.counts y.counts is.counts n i l)
      ∙ ap (λ v. if nat_lt c to then v else pos 0)
      (ap (λ (node : Node). mixed_sum x node.attrs.interp to c (edges_to_input x.world.graph.value n i)) (is.worlds.is.nodes n l)
      ∙ same_sum (node_at y.world (r n)).attrs.interp to c (edges_to_input x.world.graph.value n i) (input_sources n i)
      ∙ ap (mixed_sum y (node_at y.world (r n)).attrs.interp to c) (sym (same_inputs r x.world y.world is.worlds n i l)))
    where
      to : ℕ
      to = input_channels y.world y.counts (r n) i

  input_end_there : (n : ℕ) → n < length x.world.nodes → IsIn (input_end x.world.graph.value n) (ends x.world.graph.value)
  input_end_there n l = (IsIn-ends x.world.graph.value (input_end x.world.graph.value n)).1 (subst (λ k. n < k) (sym is.worlds.size) l, λ t. t)

  pub same_taken : (n c : ℕ) → n < length x.world.nodes → taken_in x n c ≡ taken_in y (r n) c
  same_taken n c l =
      ap (λ b. if b then pos 0 else input_value x n 0 c)
      (same_muted r x.world y.world is.worlds (input_end x.world.graph.value n) (input_end_there n l)
      ∙ ap (muted y.world.graph.value) (sym (same_input_end r x.world y.world is.worlds n l)))
      ∙ ap (λ v. if muted y.world.graph.value (input_end y.world.graph.value (r n)) then pos 0 else v) (same_value n 0 c l)
