-- A node is created in a world and in the one without the nodes that are not kept.
use Rattle.std.proofs.Common.{ℕ, ◌≡◌, length, List, [], ◌∷◌, ◌++◌, map, filter, cond, Bool, true, false, Option, Some, None, option_map, refl, sym, ◌∙◌, ap, ap₂, subst}
use Rattle.std.specs.Prelude.{unwrap_or}
use Rattle.std.proofs.lemmas.List.{append-nil, map-append, length-map}
use Rattle.wa_base.specs.declared.graph_names.BufId.{BufId}
use Rattle.sched_source.specs.declared.content.Loop.{Loop}
use Rattle.sched_source.specs.Schedule.{Schedule}
use Rattle.buffer_store.specs.declared.buffers.Buffer.{Buffer as AudioBuffer}
use Rattle.node_table.specs.Kinds.{row}
use Rattle.node_table.specs.Nodes.{node_of}
use Rattle.node_table.specs.declared.kinds.Kind.{Kind}
use Rattle.node_table.specs.declared.kinds.Kind.TheVariants.{Buffer, Causal}
use Rattle.node_table.specs.declared.equation.Equation.TheVariants.{Convolution}
use Rattle.node_table.specs.declared.nodes.Node.{Node}
use Rattle.node_table.specs.declared.rows.ParamRow.{ParamRow}
use Rattle.conn_graph.specs.declared.edges.Ports.{Ports}
use Rattle.conn_graph.specs.Graph.{with_node}
use Rattle.conn_graph.specs.Walks.{GraphView}
use Rattle.meaning.specs.declared.world.World.{World}
use Rattle.meaning.specs.declared.params.Param.{Param}
use Rattle.meaning.specs.declared.scheds.Play.{Play}
use Rattle.meaning.specs.Lists.{Listed, listed}
use Rattle.meaning.specs.World.{bare, first_sched, not_started}
use Rattle.meaning.specs.Validity.{IsValid, ports_of}
use Rattle.meaning.specs.Convolvers.{convolver_of}
use Rattle.meaning.specs.Plays.{new_source, frozen_in}
use Rattle.meaning.specs.Sources.{with_store}
use Rattle.meaning.specs.Changes.{new_params, new_play, plays_of, created, convolver_created, edited}
use Rattle.meaning.specs.declared.change.Edit.TheVariants as edit
use Rattle.meaning.proofs.Creating.{IsOwn}
use Rattle.prune.proofs.Flags.{Flags, is_kept, part_number}
use Rattle.prune.proofs.Filtered.{kept_of_kept, kept_of_other, filter-append}
use Rattle.prune.proofs.Without.{is_kept_param, is_kept_play, renumbered_param, renumbered_play, edges_without, connections_without, params_without, plays_without, IsWithout}
use Rattle.prune.proofs.Thawing.{AreLessFrozen, frozen_both, frozen_other}
use Rattle.prune.proofs.WithoutFacts.{nodes_count, samples_kept}

-- ---- lists with more items

named-append : {X : Type 0} (p : X → Bool) (name : X → X) (xs ys : List X) → map name (filter p (xs ++ ys)) ≡ map name (filter p xs) ++ map name (filter p ys)
named-append p name xs ys = ap (map name) (filter-append p xs ys) ∙ map-append name (filter p xs) (filter p ys)

-- the parameter of a new node
new_params_kept : (fs : Flags) (n : ℕ) (p : Option ParamRow) → is_kept fs n ≡ true → params_without fs (new_params n p) ≡ new_params (part_number fs n) p
new_params_kept fs n None kept = refl
new_params_kept fs n (Some p) kept = ap (λ b. map (renumbered_param fs) (cond b (new_params n (Some p)) [])) kept

new_params_other : (fs : Flags) (n : ℕ) (p : Option ParamRow) → is_kept fs n ≡ false → params_without fs (new_params n p) ≡ []
new_params_other fs n None other = refl
new_params_other fs n (Some p) other = ap (λ b. map (renumbered_param fs) (cond b (new_params n (Some p)) [])) other

-- its schedule
new_plays_kept : (fs : Flags) (n : ℕ) (play : Option Play) → IsOwn n play → is_kept fs n ≡ true → plays_without fs (plays_of play) ≡ plays_of (option_map (renumbered_play fs) play)
new_plays_kept fs n None own kept = refl
new_plays_kept fs n (Some p) own kept = ap (λ b. map (renumbered_play fs) (cond b (p ∷ []) [])) (ap (is_kept fs) (own p refl) ∙ kept)

new_plays_other : (fs : Flags) (n : ℕ) (play : Option Play) → IsOwn n play → is_kept fs n ≡ false → plays_without fs (plays_of play) ≡ []
new_plays_other fs n None own other = refl
new_plays_other fs n (Some p) own other = ap (λ b. map (renumbered_play fs) (cond b (p ∷ []) [])) (ap (is_kept fs) (own p refl) ∙ other)

-- a schedule that is there
own_some : (n : ℕ) (q : Play) → q.id.0 ≡ n → IsOwn n (Some q)
own_some n q is p same = subst (λ (x : Play). x.id.0 ≡ n) (ap (λ o. unwrap_or o q) same) is

own_new : (n : ℕ) (sched : Option Schedule) → IsOwn n (option_map (not_started n) sched)
own_new n None p same = absurd cc
own_new n (Some sched) p same = own_some n (not_started n sched) refl p same

-- by its node's number in the part
new_named : (fs : Flags) (n : ℕ) (sched : Option Schedule) → option_map (not_started (part_number fs n)) sched ≡ option_map (renumbered_play fs) (option_map (not_started n) sched)
new_named fs n None = refl
new_named fs n (Some sched) = refl

-- ---- other buffers

pub stored_without : (fs : Flags) (part whole : World) (xs ys : List AudioBuffer) → IsWithout fs part whole → AreLessFrozen xs ys → IsWithout fs (with_store part xs) (with_store whole ys)
stored_without fs part whole xs ys is less =
    record { first = is.first; spec = is.spec; nodes = is.nodes; graph = is.graph; params = is.params; scheds = is.scheds; store = less; closed = is.closed }

module _ (fs : Flags) (part whole : World) (is : IsWithout fs part whole) (valid : IsValid whole) (now : ℕ) where
  abbrev count : ℕ
  count = length whole.nodes

  long : length whole.graph.value.nodes ≡ count
  long = ap length valid.ports ∙ length-map whole.nodes ports_of

  -- ---- a node that is kept

  module _ (kept : is_kept fs count ≡ true) where
    created_graph : (ports : Ports) → bare (with_node part.graph.value ports) ≡ bare (connections_without fs (with_node whole.graph.value ports))
    created_graph ports =
        ap (λ (g : GraphView). bare (with_node g.value ports)) is.graph
        ∙ ap (λ ps. bare (record { nodes = ps; edges = edges_without fs whole.graph.value.edges })) (sym (kept_of_kept fs whole.graph.value.nodes ports (ap (is_kept fs) long ∙ kept)))

    created_params : (p : Option ParamRow) → listed (part.params.items ++ new_params (length part.nodes) p) ≡ listed (params_without fs (whole.params.items ++ new_params count p))
    created_params p =
        ap₂ (λ (l : Listed Param) n. listed (l.items ++ new_params n p)) is.params (nodes_count fs part whole is)
        ∙ ap (λ xs. listed (params_without fs whole.params.items ++ xs)) (sym (new_params_kept fs count p kept))
        ∙ ap listed (sym (named-append (is_kept_param fs) (renumbered_param fs) whole.params.items (new_params count p)))

    created_heard : (kind : Kind) (play : Option Play) → IsOwn count play → IsWithout fs (created part kind (option_map (renumbered_play fs) play) now) (created whole kind play now)
    created_heard kind play own = record {
      first = is.first;
      spec = is.spec;
      nodes = ap (λ (ns : List Node). ns ++ node_of kind now ∷ []) is.nodes ∙ sym (kept_of_kept fs whole.nodes (node_of kind now) kept);
      graph = created_graph (ports_of (node_of kind now));
      params = created_params (row kind).param;
      scheds =
          ap (λ (l : Listed Play). listed (l.items ++ plays_of (option_map (renumbered_play fs) play))) is.scheds
          ∙ ap (λ xs. listed (plays_without fs whole.scheds.items ++ xs)) (sym (new_plays_kept fs count play own kept))
          ∙ ap listed (sym (named-append (is_kept_play fs) (renumbered_play fs) whole.scheds.items (plays_of play)));
      store = is.store;
      closed = is.closed;
    }

    pub create_heard : (kind : Kind) → IsWithout fs (edited part now (edit.Create kind)) (edited whole now (edit.Create kind))
    create_heard kind =
        subst (λ p. IsWithout fs (created part kind p now) (created whole kind (new_play count kind) now))
        (sym (ap (λ n. new_play n kind) (nodes_count fs part whole is) ∙ new_named fs count (first_sched kind)))
        (created_heard kind (new_play count kind) (own_new count (first_sched kind)))

    pub create_source_heard : (rate : ℕ) (buffer : Option BufId) (points : Loop)
        → IsWithout fs (edited part now (edit.CreateBufferSource rate buffer points)) (edited whole now (edit.CreateBufferSource rate buffer points))
    create_source_heard rate buffer points =
        subst (λ n. IsWithout fs (created part (Buffer rate) (Some (new_source n rate buffer points)) now) (created whole (Buffer rate) (Some (new_source count rate buffer points)) now))
        (sym (nodes_count fs part whole is))
        (created_heard (Buffer rate) (Some (new_source count rate buffer points)) (own_some count (new_source count rate buffer points) refl))

    pub create_convolver_heard : (buffer : Option BufId) → IsWithout fs (edited part now (edit.CreateConvolver buffer)) (edited whole now (edit.CreateConvolver buffer))
    create_convolver_heard buffer =
        subst (λ response. IsWithout fs (with_store (created part (Causal (Convolution response)) None now) (frozen_in part.store buffer)) (convolver_created whole buffer now))
        (sym (samples_kept fs part whole is buffer 0))
        (stored_without fs _ _ (frozen_in part.store buffer) (frozen_in whole.store buffer) (created_heard (convolver_of whole.store buffer) None (λ p same. absurd cc)) (frozen_both part.store whole.store buffer is.store))

  -- ---- a node that is not

  module _ (other : is_kept fs count ≡ false) where
    created_other : (kind : Kind) (play : Option Play) → IsOwn count play → IsWithout fs part (created whole kind play now)
    created_other kind play own = record {
      first = is.first;
      spec = is.spec;
      nodes = is.nodes ∙ sym (kept_of_other fs whole.nodes (node_of kind now) other);
      graph =
          is.graph
          ∙ ap (λ ps. bare (record { nodes = ps; edges = edges_without fs whole.graph.value.edges }))
          (sym (kept_of_other fs whole.graph.value.nodes (ports_of (node_of kind now)) (ap (is_kept fs) long ∙ other)));
      params =
          is.params
          ∙ ap listed (sym (named-append (is_kept_param fs) (renumbered_param fs) whole.params.items (new_params count (row kind).param)
          ∙ ap (λ xs. params_without fs whole.params.items ++ xs) (new_params_other fs count (row kind).param other) ∙ append-nil (params_without fs whole.params.items)));
      scheds =
          is.scheds
          ∙ ap listed (sym (named-append (is_kept_play fs) (renumbered_play fs) whole.scheds.items (plays_of play)
          ∙ ap (λ xs. plays_without fs whole.scheds.items ++ xs) (new_plays_other fs count play own other) ∙ append-nil (plays_without fs whole.scheds.items)));
      store = is.store;
      closed = is.closed;
    }

    pub create_other : (kind : Kind) → IsWithout fs part (edited whole now (edit.Create kind))
    create_other kind = created_other kind (new_play count kind) (own_new count (first_sched kind))

    pub create_source_other : (rate : ℕ) (buffer : Option BufId) (points : Loop) → IsWithout fs part (edited whole now (edit.CreateBufferSource rate buffer points))
    create_source_other rate buffer points = created_other (Buffer rate) (Some (new_source count rate buffer points)) (own_some count (new_source count rate buffer points) refl)

    pub create_convolver_other : (buffer : Option BufId) → IsWithout fs part (edited whole now (edit.CreateConvolver buffer))
    create_convolver_other buffer =
        stored_without fs part (created whole (convolver_of whole.store buffer) None now) part.store (frozen_in whole.store buffer)
        (created_other (convolver_of whole.store buffer) None (λ p same. absurd cc)) (frozen_other part.store whole.store buffer is.store)
