-- Sources, parameters, attributes and buffers are edited in a world and in the one without the nodes that are not kept.
use Rattle.std.proofs.Common.{ℕ, ℤ, zero, suc, ◌≡◌, List, [], ◌∷◌, map, Bool, true, false, Option, Some, None, option_map, refl, sym, ◌∙◌, ap, subst}
use Rattle.std.specs.Prelude.{◌==◌, if◌then◌else◌}
use Rattle.wa_base.specs.declared.graph_names.NodeId.{NodeId}
use Rattle.wa_base.specs.declared.graph_names.ParamId.{ParamId}
use Rattle.buffer_store.specs.Buffers.{silence, recorded}
use Rattle.node_table.specs.Nodes.{changed_at, node_with_curve}
use Rattle.node_table.specs.declared.nodes.Node.{Node}
use Rattle.law_base.proofs.Tests.{and_parts}
use Rattle.conn_graph.specs.Edges.{same_param, same_name}
use Rattle.conn_graph.proofs.EndLaws.{nat_same}
use Rattle.meaning.specs.declared.automation.ParamEdit.{ParamEdit}
use Rattle.meaning.specs.declared.buffers.BufferEdit.{BufferEdit}
use Rattle.meaning.specs.declared.buffers.BufferEdit.TheVariants as buffer_edit
use Rattle.meaning.specs.declared.change.AttributeEdit.{AttributeEdit}
use Rattle.meaning.specs.declared.change.Edit.TheVariants as edit
use Rattle.meaning.specs.declared.params.Param.{Param}
use Rattle.meaning.specs.declared.scheds.Play.{Play}
use Rattle.meaning.specs.declared.sources.SourceEdit.{SourceEdit}
use Rattle.meaning.specs.declared.sources.SourceEdit.TheVariants as source
use Rattle.meaning.specs.declared.world.World.{World}
use Rattle.meaning.specs.Automation.{param_edited, changed_param}
use Rattle.meaning.specs.Changes.{attribute_set, with_nodes, edited}
use Rattle.meaning.specs.Lists.{Listed, listed}
use Rattle.meaning.specs.Plays.{play_edited, acquires, acquired, frozen_in}
use Rattle.meaning.specs.Sources.{changed_play, buffers_edited}
use Rattle.meaning.specs.World.{find_play, frames_in}
use Rattle.meaning.proofs.Sourcing.{edited_id}
use Rattle.prune.proofs.Flags.{Flags, is_kept, part_number, same_part}
use Rattle.prune.proofs.Filtered.{kept_of, map_both, map_unseen}
use Rattle.prune.proofs.Without.{part_param, part_edit, is_kept_param, is_kept_play, renumbered_param, renumbered_play, IsWithout}
use Rattle.prune.proofs.Thawing.{AreLessFrozen, one_more, frozen_both, frozen_other, written_both}
use Rattle.prune.proofs.WithoutFacts.{frames_kept, play_found, same_named_param}
use Rattle.prune.proofs.WithoutCreations.{stored_without}

-- ---- one node is changed

pub kept_of-changed_at : (fs : Flags) (n : ℕ) (change : Node → Node) (ns : List Node) → is_kept fs n ≡ true → kept_of fs (changed_at n change ns) ≡ changed_at (part_number fs n) change (kept_of fs ns)
kept_of-changed_at [] n change ns kept = refl
kept_of-changed_at (f ∷ fs) n change [] kept = refl
kept_of-changed_at (true ∷ fs) zero change (x ∷ ns) kept = refl
kept_of-changed_at (false ∷ fs) zero change (x ∷ ns) kept = absurd cc
kept_of-changed_at (true ∷ fs) (suc n) change (x ∷ ns) kept = ap (λ ms. x ∷ ms) (kept_of-changed_at fs n change ns kept)
kept_of-changed_at (false ∷ fs) (suc n) change (x ∷ ns) kept = kept_of-changed_at fs n change ns kept

pub kept_of-changed_other : (fs : Flags) (n : ℕ) (change : Node → Node) (ns : List Node) → is_kept fs n ≡ false → kept_of fs (changed_at n change ns) ≡ kept_of fs ns
kept_of-changed_other [] n change ns other = absurd cc
kept_of-changed_other (f ∷ fs) n change [] other = refl
kept_of-changed_other (true ∷ fs) zero change (x ∷ ns) other = absurd cc
kept_of-changed_other (false ∷ fs) zero change (x ∷ ns) other = refl
kept_of-changed_other (true ∷ fs) (suc n) change (x ∷ ns) other = ap (λ ms. x ∷ ms) (kept_of-changed_other fs n change ns other)
kept_of-changed_other (false ∷ fs) (suc n) change (x ∷ ns) other = kept_of-changed_other fs n change ns other

module _ (fs : Flags) (part whole : World) (is : IsWithout fs part whole) (node : ℕ) (change : Node → Node) where
  set_heard : is_kept fs node ≡ true → IsWithout fs (with_nodes part (changed_at (part_number fs node) change part.nodes)) (with_nodes whole (changed_at node change whole.nodes))
  set_heard kept = record {
    first = is.first;
    spec = is.spec;
    nodes = ap (changed_at (part_number fs node) change) is.nodes ∙ sym (kept_of-changed_at fs node change whole.nodes kept);
    graph = is.graph;
    params = is.params;
    scheds = is.scheds;
    store = is.store;
    closed = is.closed;
  }

  set_other : is_kept fs node ≡ false → IsWithout fs part (with_nodes whole (changed_at node change whole.nodes))
  set_other other = record {
    first = is.first;
    spec = is.spec;
    nodes = is.nodes ∙ sym (kept_of-changed_other fs node change whole.nodes other);
    graph = is.graph;
    params = is.params;
    scheds = is.scheds;
    store = is.store;
    closed = is.closed;
  }

-- ---- one of the items is changed

-- what is done where a test passes is done to an item by its other name where the test of that name passes
chosen : {X Y : Type 0} (name : X → Y) (change : X → X) (change' : Y → Y) (x : X) (b b' : Bool) → b' ≡ b → name (change x) ≡ change' (name x)
    → name (if b then change x else x) ≡ (if b' then change' (name x) else name x)
chosen name change change' x true b' same e = e ∙ sym (ap (λ t. if t then change' (name x) else name x) same)
chosen name change change' x false b' same e = sym (ap (λ t. if t then change' (name x) else name x) same)

-- what a change does not touch
untouched : {X Z : Type 0} (f : X → Z) (change : X → X) (x : X) (b : Bool) → f (change x) ≡ f x → f (if b then change x else x) ≡ f x
untouched f change x true e = e
untouched f change x false e = refl

not_chosen : {X : Type 0} (change : X → X) (x : X) (b : Bool) → b ≡ false → (if b then change x else x) ≡ x
not_chosen change x true is = absurd cc
not_chosen change x false is = refl

-- a test that an item of a kept node does not pass
fails : (b : Bool) → (b ≡ true → ⊥) → b ≡ false
fails true never = absurd (never refl)
fails false never = refl

module _ (fs : Flags) (part whole : World) (is : IsWithout fs part whole) (now : ℕ) where
  -- ---- sources

  same_acquires : (e : SourceEdit) (p : Play) → acquires e (renumbered_play fs p) ≡ acquires e p
  same_acquires (source.Start when offset duration) p = refl
  same_acquires (source.Stop when) p = refl
  same_acquires (source.SetBuffer buffer) p = refl
  same_acquires (source.SetLoop part) p = refl

  same_edited : (frames : ℕ) (e : SourceEdit) (p : Play) → renumbered_play fs (play_edited frames now e p) ≡ play_edited frames now e (renumbered_play fs p)
  same_edited frames (source.Start when offset duration) p = refl
  same_edited frames (source.Stop when) p = refl
  same_edited frames (source.SetBuffer buffer) p = refl
  same_edited frames (source.SetLoop part) p = refl

  acquired_both : (e : SourceEdit) (o : Option Play) → AreLessFrozen (acquired part.store e (option_map (renumbered_play fs) o)) (acquired whole.store e o)
  acquired_both e None = is.store
  acquired_both e (Some p) = subst (λ b. AreLessFrozen (frozen_in part.store b) (frozen_in whole.store (acquires e p))) (sym (same_acquires e p)) (frozen_both part.store whole.store (acquires e p) is.store)

  acquired_other : (e : SourceEdit) (o : Option Play) → AreLessFrozen part.store (acquired whole.store e o)
  acquired_other e None = is.store
  acquired_other e (Some p) = frozen_other part.store whole.store (acquires e p) is.store

  module _ (node : ℕ) (e : SourceEdit) where
    edited_here : Play → Play
    edited_here play = play_edited (frames_in whole.store play.buffer) now e play

    edited_in_part : Play → Play
    edited_in_part play = play_edited (frames_in part.store play.buffer) now e play

    edited_named : (p : Play) → renumbered_play fs (edited_here p) ≡ edited_in_part (renumbered_play fs p)
    unfolding edited_here edited_in_part
    edited_named p = same_edited (frames_in whole.store p.buffer) e p ∙ ap (λ frames. play_edited frames now e (renumbered_play fs p)) (sym (frames_kept fs part whole is p.buffer))

    play_stays : (p : Play) → is_kept_play fs (changed_play node edited_here p) ≡ is_kept_play fs p
    unfolding edited_here
    play_stays p = untouched (is_kept_play fs) edited_here p (p.id.0 == node) (ap (λ (n : NodeId). is_kept fs n.0) (edited_id (frames_in whole.store p.buffer) now e p))

    pub source_heard : is_kept fs node ≡ true → IsWithout fs (edited part now (edit.Source (record { 0 = part_number fs node }) e)) (edited whole now (edit.Source (record { 0 = node }) e))
    unfolding edited_here edited_in_part
    source_heard kept = record {
      first = is.first;
      spec = is.spec;
      nodes = is.nodes;
      graph = is.graph;
      params = is.params;
      scheds =
          ap (λ (l : Listed Play). listed (map (changed_play (part_number fs node) edited_in_part) l.items)) is.scheds
          ∙ ap listed (sym (map_both (is_kept_play fs) (renumbered_play fs) (changed_play node edited_here) (changed_play (part_number fs node) edited_in_part) whole.scheds.items play_stays
          (λ p too. chosen (renumbered_play fs) edited_here edited_in_part p (p.id.0 == node) (part_number fs p.id.0 == part_number fs node) (same_part fs p.id.0 node too kept) (edited_named p))));
      store = subst (λ o. AreLessFrozen (acquired part.store e o) (acquired whole.store e (find_play whole.scheds.items node))) (sym (play_found fs part whole node is kept)) (acquired_both e (find_play whole.scheds.items node));
      closed = is.closed;
    }

    pub source_other : is_kept fs node ≡ false → IsWithout fs part (edited whole now (edit.Source (record { 0 = node }) e))
    unfolding edited_here
    source_other other = record {
      first = is.first;
      spec = is.spec;
      nodes = is.nodes;
      graph = is.graph;
      params = is.params;
      scheds =
          is.scheds
          ∙ ap (λ xs. listed (map (renumbered_play fs) xs)) (sym (map_unseen (is_kept_play fs) (changed_play node edited_here) whole.scheds.items play_stays
          (λ p kept. not_chosen edited_here p (p.id.0 == node) (fails (p.id.0 == node) (λ same. let there : is_kept fs node ≡ true = subst (λ n. is_kept fs n ≡ true) (nat_same p.id.0 node same) kept in cc)))));
      store = acquired_other e (find_play whole.scheds.items node);
      closed = is.closed;
    }

  -- ---- parameters

  module _ (id : ParamId) (e : ParamEdit) where
    param_stays : (p : Param) → is_kept_param fs (changed_param id (param_edited now e) p) ≡ is_kept_param fs p
    param_stays p = untouched (is_kept_param fs) (param_edited now e) p (same_param p.id id) refl

    pub param_heard : is_kept fs id.node.0 ≡ true → IsWithout fs (edited part now (edit.Param (part_param fs id) e)) (edited whole now (edit.Param id e))
    param_heard kept = record {
      first = is.first;
      spec = is.spec;
      nodes = is.nodes;
      graph = is.graph;
      params =
          ap (λ (l : Listed Param). listed (map (changed_param (part_param fs id) (param_edited now e)) l.items)) is.params
          ∙ ap listed (sym (map_both (is_kept_param fs) (renumbered_param fs) (changed_param id (param_edited now e)) (changed_param (part_param fs id) (param_edited now e)) whole.params.items param_stays
          (λ p too. chosen (renumbered_param fs) (param_edited now e) (param_edited now e) p (same_param p.id id) (same_param (part_param fs p.id) (part_param fs id)) (same_named_param fs id kept p.id too) refl)));
      scheds = is.scheds;
      store = is.store;
      closed = is.closed;
    }

    pub param_other : is_kept fs id.node.0 ≡ false → IsWithout fs part (edited whole now (edit.Param id e))
    param_other other = record {
      first = is.first;
      spec = is.spec;
      nodes = is.nodes;
      graph = is.graph;
      params =
          is.params
          ∙ ap (λ xs. listed (map (renumbered_param fs) xs)) (sym (map_unseen (is_kept_param fs) (changed_param id (param_edited now e)) whole.params.items param_stays
          (λ p kept. not_chosen (param_edited now e) p (same_param p.id id) (fails (same_param p.id id) (λ same.
          let node : p.id.node.0 ≡ id.node.0 = nat_same p.id.node.0 id.node.0 (and_parts (p.id.node.0 == id.node.0) (same_name p.id.name id.name) same).0 in
          let there : is_kept fs id.node.0 ≡ true = subst (λ n. is_kept fs n ≡ true) node kept in cc)))));
      scheds = is.scheds;
      store = is.store;
      closed = is.closed;
    }

  -- ---- attributes and curves

  pub attribute_heard : (node : NodeId) (e : AttributeEdit) → is_kept fs node.0 ≡ true → IsWithout fs (edited part now (part_edit fs (edit.Attribute node e))) (edited whole now (edit.Attribute node e))
  attribute_heard node e kept = set_heard fs part whole is node.0 (attribute_set e) kept

  pub attribute_other : (node : NodeId) (e : AttributeEdit) → is_kept fs node.0 ≡ false → IsWithout fs part (edited whole now (edit.Attribute node e))
  attribute_other node e other = set_other fs part whole is node.0 (attribute_set e) other

  pub curve_heard : (node : NodeId) (curve : Option (List ℤ)) → is_kept fs node.0 ≡ true → IsWithout fs (edited part now (part_edit fs (edit.SetCurve node curve))) (edited whole now (edit.SetCurve node curve))
  curve_heard node curve kept = set_heard fs part whole is node.0 (node_with_curve curve) kept

  pub curve_other : (node : NodeId) (curve : Option (List ℤ)) → is_kept fs node.0 ≡ false → IsWithout fs part (edited whole now (edit.SetCurve node curve))
  curve_other node curve other = set_other fs part whole is node.0 (node_with_curve curve) other

  -- ---- buffers

  less_frozen : (e : BufferEdit) → AreLessFrozen (buffers_edited part.store e) (buffers_edited whole.store e)
  less_frozen (buffer_edit.Create channels frames rate) = one_more part.store whole.store (silence channels frames rate) is.store
  less_frozen (buffer_edit.Adopt wav) = one_more part.store whole.store (recorded wav) is.store
  less_frozen (buffer_edit.Write buffer channel samples first) = written_both buffer.0 channel samples first part.store whole.store is.store

  pub buffers_heard : (e : BufferEdit) → IsWithout fs (edited part now (edit.Buffers e)) (edited whole now (edit.Buffers e))
  buffers_heard e = stored_without fs part whole (buffers_edited part.store e) (buffers_edited whole.store e) is (less_frozen e)
