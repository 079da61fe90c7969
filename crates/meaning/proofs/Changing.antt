-- What a change leaves of a world.
use Rattle.std.proofs.Common.{ℕ, ◌≡◌, ◌≤◌, ◌+◌, ◌++◌, length, length-append, List, slice_index_or, slice_get, slice_set, map, [], ◌∷◌, Bool, true, false, Some, None, ◌==◌, refl, sym, ◌∙◌, ap, subst, inl, inr, arith, Option, Result, Ok, Err}
use Rattle.std.specs.Prelude.{if◌then◌else◌, OnOk, OnErr}
use Rattle.std.specs.List.{position}
use Rattle.std.specs.Result.{result_err}
use Rattle.std.proofs.lemmas.Bool.{cases_lt}
use Rattle.std.proofs.lemmas.Bool.Decides.{nat_tests}
use Rattle.std.proofs.lemmas.List.{get_or_past}
use Rattle.std.proofs.lemmas.List.Quantifiers.{position-Some}
use Rattle.std.proofs.lemmas.Option.{get_or_from_slice_get}
use Rattle.wa_base.specs.Contexts.{quantum_of}
use Rattle.wa_base.specs.declared.exceptions.Exc.{Exc}
use Rattle.wa_base.specs.declared.memory.NoMemory.{NoMemory}
use Rattle.wa_base.specs.declared.exceptions.Exc.TheVariants.{NotSupported}
use Rattle.wa_base.specs.declared.features.Feature.TheVariants.{DestinationOutput}
use Rattle.law_base.specs.Members.{AreDistinct}
use Rattle.node_table.specs.Kinds.{is_destination, range_refusal, lasting}
use Rattle.node_table.specs.Nodes.{creation_refusal, node_of, node_with_curve, curve_refusal, changed_at, refusal_at}
use Rattle.node_table.proofs.NodeLists.{second_none}
use Rattle.node_table.proofs.Setting.{length-changed}
use Rattle.node_table.specs.declared.kinds.Kind.{Kind}
use Rattle.node_table.specs.declared.kinds.Kind.TheVariants.{Buffer}
use Rattle.node_table.specs.declared.nodes.Node.{Node}
use Rattle.conn_graph.specs.declared.edges.Edge.{Edge}
use Rattle.conn_graph.specs.Graph.{connect_refusal}
use Rattle.meaning.specs.declared.change.Change.{Change}
use Rattle.meaning.specs.declared.change.Edit.{Edit}
use Rattle.meaning.specs.declared.change.Edit.TheVariants as edit
use Rattle.meaning.specs.declared.world.World.{World}
use Rattle.meaning.specs.declared.scheds.Play.{Play}
use Rattle.meaning.specs.World.{plain, no_node, node_at, find_play}
use Rattle.meaning.specs.Validity.{IsValid, play_nodes}
use Rattle.meaning.specs.Convolvers.{convolver_of, response_channels_refusal}
use Rattle.meaning.specs.Plays.{new_source, frozen_in}
use Rattle.wa_base.specs.declared.graph_names.BufId.{BufId}
use Rattle.meaning.specs.Sources.{with_store, changed_play, resampling_refusal}
use Rattle.meaning.specs.Worlds.{HasCapacity}
use Rattle.meaning.specs.Changes.{created, edited, new_play, with_nodes, output_refusal, refusal, changed, attribute_set, attribute_refusal, IsNamed, Accepts, Grows, ChangeLaw}
use Rattle.meaning.proofs.Valid.{plain_valid, connected_valid, disconnected_valid}
use Rattle.meaning.proofs.Creating.{created_valid, node_kept, node_new, IsNewPlay}
use Rattle.meaning.proofs.Setting.{KeepsNode, set_valid, changed_same, node_keeps_attribute, node_keeps_curve}
use Rattle.meaning.proofs.Sourcing.{new_play_is, new_source_is, source_edited_valid, acquired_keeps, with_store_valid, frozen_keeps, frozen_are}
use Rattle.meaning.proofs.OneChanged.{written_over}
use Rattle.meaning.proofs.Automating.{automated_valid}
use Rattle.meaning.proofs.Buffering.{buffers_edited_valid, buffers_stay}

-- past the nodes nothing is kept
none_past : (w : World) (i : ℕ) → length w.nodes ≤ i → HasCapacity (quantum_of w.spec) w.spec (node_at w i).kind
none_past w i past = subst (λ (n : Node). HasCapacity (quantum_of w.spec) w.spec n.kind) (sym (get_or_past w.nodes i no_node past)) tt

-- the nodes stay, and so does what was there before a new one
pub grows_still : (now : ℕ) (old new : World) → (IsValid old → IsValid new) → new.spec ≡ old.spec → length old.store ≤ length new.store → new.nodes ≡ old.nodes → Grows now old new
grows_still now old new valid spec buffers nodes = record {
  valid = valid;
  spec = spec;
  buffers = buffers;
  stays = λ i l. record {
    there = rw nodes l;
    kind = ap (λ (ns : List Node). lasting (slice_index_or ns i no_node).kind) nodes;
    birth = ap (λ (ns : List Node). (slice_index_or ns i no_node).attrs.birth) nodes;
  };
  born = λ i high low. let same : length new.nodes ≡ length old.nodes = ap length nodes in absurd (omega arith);
  capacity = λ i high. let same : length new.nodes ≡ length old.nodes = ap length nodes in none_past new i (omega arith);
}

pub grows_same : (now : ℕ) (w : World) → Grows now w w
grows_same now w = grows_still now w w (λ v. v) refl (omega arith) refl

-- one node more
pub grows_created : (w : World) (kind : Kind) (play : Option Play) → IsNewPlay w kind play → (now : ℕ) → is_destination kind ≡ false → HasCapacity (quantum_of w.spec) w.spec kind → creation_refusal w.nodes kind ≡ None
    → Grows now w (created w kind play now)
grows_created w kind play new now other capacity accepted = record {
  valid = λ valid. created_valid w kind play new now valid other accepted;
  spec = refl;
  buffers = omega arith;
  stays = λ i l.
      let kept = node_kept w.nodes (node_of kind now) i l in
      record { there = omega (arith, long); kind = ap (λ (n : Node). lasting n.kind) kept; birth = ap (λ (n : Node). n.attrs.birth) kept };
  born = λ i high low.
      let last : i ≡ length w.nodes = omega (arith, long) in
      ap (λ k. (slice_index_or (w.nodes ++ node_of kind now ∷ []) k no_node).attrs.birth) last ∙ ap (λ (n : Node). n.attrs.birth) (node_new w.nodes (node_of kind now));
  capacity = λ i high. elim (cases_lt (length w.nodes) i) [
    | inl past ↦ none_past (created w kind play now) i (omega (arith, long))
    | inr low ↦
        let last : i ≡ length w.nodes = omega arith in
        let new : slice_index_or (w.nodes ++ node_of kind now ∷ []) i no_node ≡ node_of kind now =
        ap (λ k. slice_index_or (w.nodes ++ node_of kind now ∷ []) k no_node) last ∙ node_new w.nodes (node_of kind now) in
        subst (λ (n : Node). HasCapacity (quantum_of w.spec) w.spec n.kind) (sym new) capacity
  ];
}
  where
    long : length (w.nodes ++ node_of kind now ∷ []) ≡ length w.nodes + 1
    long = length-append w.nodes (node_of kind now ∷ [])

-- and a buffer that is acquired
grows_frozen : (w : World) (buffer : Option BufId) (now : ℕ) (kind : Kind) → Grows now w (created w kind None now) → Grows now w (with_store (created w kind None now) (frozen_in w.store buffer))
grows_frozen w buffer now kind grows = record {
  valid = λ valid. with_store_valid (created w kind None now) (frozen_in w.store buffer) (frozen_keeps w.store buffer) (frozen_are w.store buffer valid.store) (grows.valid valid);
  spec = refl;
  buffers = (frozen_keeps w.store buffer).long;
  stays = λ i l. let stays = grows.stays i l in record { there = stays.there; kind = stays.kind; birth = stays.birth };
  born = grows.born;
  capacity = grows.capacity;
}

-- an attribute of one node
grows_set : (w : World) (node now : ℕ) (refusal : Node → Option Exc) (change : Node → Node) → KeepsNode refusal change → refusal_at w.nodes node refusal ≡ None → Grows now w (with_nodes w (changed_at node change w.nodes))
grows_set w node now refusal change keeps fine = record {
  valid = λ valid. set_valid w node refusal change keeps fine valid;
  spec = refl;
  buffers = omega arith;
  stays = λ i l. record {
    there = omega (arith, same);
    kind = changed_same (λ (n : Node). lasting n.kind) change keeps.kind node w.nodes i;
    birth = changed_same (λ (n : Node). n.attrs.birth) change keeps.birth node w.nodes i;
  };
  born = λ i high low. absurd (omega (arith, same));
  capacity = λ i high. none_past (with_nodes w (changed_at node change w.nodes)) i (omega (arith, same));
}
  where
    same : length (changed_at node change w.nodes) ≡ length w.nodes
    same = length-changed node change w.nodes

-- a connection that is not refused does not leave the destination, and its other refusals do not come
pub unrefused : (from : ℕ) (w : World) (e : Edge) → output_refusal from (connect_refusal w.graph.value e) ≡ None → connect_refusal w.graph.value e ≡ None
unrefused from w e accepted = by_test (from == 0) accepted
  where
    by_test : (b : Bool) → (if b then Some (NotSupported (Some DestinationOutput)) else connect_refusal w.graph.value e) ≡ None → connect_refusal w.graph.value e ≡ None
    by_test true is = absurd cc
    by_test false is = is

pub edited_grows : (w : World) (now : ℕ) (e : Edit) → IsNamed w e → refusal w now e ≡ None → IsValid w → Grows now w (edited w now e)
edited_grows w now (edit.Create kind) named accepted valid = grows_created w kind (new_play (length w.nodes) kind) (new_play_is w kind) now named.0 named.1 accepted
edited_grows w now (edit.CreateBufferSource rate buffer points) named accepted valid =
    grows_created w (Buffer rate) (Some (new_source (length w.nodes) rate buffer points)) (new_source_is w rate buffer points named) now refl tt
    (second_none (resampling_refusal w buffer) _ (second_none (range_refusal (Buffer rate)) _ accepted))
edited_grows w now (edit.CreateConvolver buffer) named accepted valid =
    grows_frozen w buffer now (convolver_of w.store buffer) (grows_created w (convolver_of w.store buffer) None (record { own = λ p is. absurd cc; sources = refl; fits = λ p is. absurd cc }) now refl tt
    (second_none (resampling_refusal w buffer) _ (second_none (response_channels_refusal w.store buffer) _ accepted)))
edited_grows w now (edit.Connect edge) named accepted valid =
    grows_still now w _ (λ v. connected_valid w edge v named.0 named.1 (unrefused edge.from.0 w edge accepted)) refl (omega arith) refl
edited_grows w now (edit.Disconnect from form) named accepted valid = grows_still now w _ (λ v. disconnected_valid w from.0 form v) refl (omega arith) refl
edited_grows w now (edit.Source node e) named accepted valid = grows_still now w _ (λ v. source_edited_valid w now node.0 e named accepted v) refl (acquired_keeps w.store e (find_play w.scheds.items node.0)).long refl
edited_grows w now (edit.Param id e) named accepted valid = grows_still now w _ (λ v. automated_valid w now id e accepted v) refl (omega arith) refl
edited_grows w now (edit.Attribute node e) named accepted valid = grows_set w node.0 now (attribute_refusal e) (attribute_set e) (node_keeps_attribute e) accepted
edited_grows w now (edit.SetCurve node curve) named accepted valid = grows_set w node.0 now (curve_refusal curve) (node_with_curve curve) (node_keeps_curve curve) accepted
edited_grows w now (edit.Buffers e) named accepted valid = grows_still now w _ (λ v. buffers_edited_valid w e named accepted v) refl (buffers_stay w.store e) refl

pub changed_grows : ChangeLaw
changed_grows w change valid accepts = edited_grows w change.time change.edit accepts.named accepts.accepted valid

-- ---- the schedule of one source

-- the schedule that is found, changed and written over
pub rescheduled_is : (w : World) (node place : ℕ) (play new : Play) (change : Play → Play) → AreDistinct (play_nodes w) → position (λ (p : Play). p.id.0 == node) w.scheds.items ≡ Some place
    → slice_get w.scheds.items place ≡ Some play → new ≡ change play → slice_set w.scheds.items place new ≡ map (changed_play node change) w.scheds.items
rescheduled_is w node place play new change once found there is =
    let at : slice_index_or w.scheds.items place play ≡ play = get_or_from_slice_get w.scheds.items place play play there in
    let first = position-Some (λ (p : Play). p.id.0 == node) w.scheds.items place play found in
    ap (λ p. slice_set w.scheds.items place p) (is ∙ ap change (sym at))
    ∙ sym (written_over (λ (p : Play). p.id.0 == node) change (λ (p : Play). p.id.0) node (λ p h. let same : p.id.0 ≡ node = grind (arith, nat_tests) in same) w.scheds.items place play once first.0 first.1)

-- a call that is not refused is done
pub not_refused : {X : Type 0} (r : Result (Unit {0}) Exc) → result_err r ≡ None → OnOk r X → X
not_refused (Ok v) none done = done
not_refused (Err exc) none done = absurd cc

-- a world after a change that was made, or was not for want of memory
pub follows : (w new : World) (change : Change) (r : Result (Unit {0}) NoMemory) → IsValid w → Accepts (plain w) change → OnOk r (plain new ≡ changed (plain w) change) → OnErr r (plain new ≡ plain w)
    → Grows change.time (plain w) (plain new)
follows w new change (Ok v) valid accepts done failed = rw done (edited_grows (plain w) change.time change.edit accepts.named accepts.accepted (plain_valid w valid))
follows w new change (Err e) valid accepts done failed = rw failed (grows_same change.time (plain w))
