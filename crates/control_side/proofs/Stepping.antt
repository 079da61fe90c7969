-- A machine stays steady through edits and quanta.
use Rattle.std.proofs.Common.{ℕ, ◌≡◌, ◌<◌, ◌≤◌, length, List, [], ◌∷◌, map, All, true, false, Option, Some, None, Result, Ok, Err, IsSome, refl, sym, ◌∙◌, ap, subst, arith, length-append}
use Rattle.std.specs.Prelude.{OnOk, OnErr}
use Rattle.std.proofs.lemmas.List.{map-append}
use Rattle.std.proofs.lemmas.List.Elements.{All-append, All-cons}
use Rattle.wa_base.specs.declared.memory.NoMemory.{NoMemory}
use Rattle.name_book.specs.Book.{BookView, bound, first_named, first_name_of}
use Rattle.name_book.specs.declared.book.Object.{Object}
use Rattle.name_book.specs.declared.book.Object.TheVariants.{Node, Buffer}
use Rattle.buffer_store.specs.Buffers.{silence, recorded}
use Rattle.buffer_store.specs.declared.buffers.Buffer.{Buffer as AudioBuffer}
use Rattle.node_table.specs.Nodes.{node_of, node_with_curve}
use Rattle.node_table.proofs.Setting.{length-changed}
use Rattle.node_table.specs.declared.kinds.Kind.{Kind}
use Rattle.node_table.specs.declared.kinds.Kind.TheVariants.{Buffer as BufferKind}
use Rattle.meaning.specs.declared.buffers.BufferEdit.{BufferEdit}
use Rattle.meaning.specs.declared.buffers.BufferEdit.TheVariants as buffer_edit
use Rattle.meaning.specs.declared.change.Edit.{Edit}
use Rattle.meaning.specs.declared.change.Edit.TheVariants as edit
use Rattle.meaning.specs.declared.world.World.{World}
use Rattle.meaning.specs.declared.scheds.Play.{Play}
use Rattle.meaning.specs.Convolvers.{convolver_of}
use Rattle.meaning.specs.World.{plain, find_play, frames_in}
use Rattle.meaning.specs.Validity.{IsValid, play_nodes}
use Rattle.meaning.specs.Plays.{new_source, frozen_in, play_edited}
use Rattle.meaning.specs.Sources.{with_store, buffers_edited}
use Rattle.meaning.specs.Changes.{creates, created, edited, attribute_set, new_play, plays_of}
use Rattle.meaning.proofs.Valid.{changed_nodes}
use Rattle.meaning.proofs.Creating.{IsOwn}
use Rattle.meaning.proofs.Sourcing.{new_play_is, new_source_is, edited_id, frozen_keeps, acquired_keeps}
use Rattle.meaning.proofs.Buffering.{buffers_stay}
use Rattle.meaning.proofs.Changing.{changed_grows}
use Rattle.control_msgs.specs.Messages.{ended_marked}
use Rattle.wa_base.specs.declared.contexts.ContextSpec.{ContextSpec}
use Rattle.wa_base.specs.declared.contexts.State.TheVariants.{Suspended, Closed}
use Rattle.ctx_state.specs.Context.{ContextView, next, turn_of, turned_by, after_turn, IsTurned as context_turned}
use Rattle.ctx_state.specs.declared.context.Turn.{Turn}
use Rattle.ctx_state.specs.declared.context.Turn.TheVariants.{Went, Due, Done}
use Rattle.control_side.specs.Machine.{Machine, IsAccepted, machine_of}
use Rattle.control_side.specs.Steady.{IsSteady, IsThere}
use Rattle.control_side.specs.Turns.{IsTurned}
use Rattle.control_side.specs.Step.{with_world, with_edit, created_by}
use Rattle.control_msgs.proofs.Marks.{marked_nodes}
use Rattle.control_side.proofs.Named.{All-bound, there_still, named_still, named_new}

-- ---- an edit

edited_valid : (m : Machine) (e : Edit) → IsAccepted m e → IsSteady m → IsValid (edited m.world m.context.time e)
edited_valid m e accepted steady = (changed_grows m.world (record { time = m.context.time; edit = e }) steady.valid accepted).valid steady.valid

-- a machine whose world changes, but for how many its nodes are and whose its schedules are, and from which no buffer goes
pub steady_world : (m : Machine) (w : World) → w.spec ≡ m.world.spec → length w.nodes ≡ length m.world.nodes → length m.world.store ≤ length w.store
    → play_nodes w ≡ play_nodes m.world → IsValid w → IsSteady m → IsSteady (with_world m w)
steady_world m w spec nodes buffers plays valid steady = record {
  valid = valid;
  spec = steady.spec ∙ sym spec;
  time = steady.time;
  bound = λ k d l. there_still m.world w (omega arith) buffers _ (steady.bound k d l);
  named = rw plays steady.named;
}

-- an edit that creates nothing
pub steady_edited : (m : Machine) (e : Edit) → creates e ≡ false → IsAccepted m e → IsSteady m → IsSteady (with_edit m e None)
steady_edited m (edit.Create kind) none accepted steady = absurd cc
steady_edited m (edit.CreateBufferSource rate buffer points) none accepted steady = absurd cc
steady_edited m (edit.CreateConvolver buffer) none accepted steady = absurd cc
steady_edited m (edit.Connect edge) none accepted steady = steady_world m _ refl refl (omega arith) refl (edited_valid m (edit.Connect edge) accepted steady) steady
steady_edited m (edit.Disconnect from form) none accepted steady = steady_world m _ refl refl (omega arith) refl (edited_valid m (edit.Disconnect from form) accepted steady) steady
steady_edited m (edit.Source node e) none accepted steady =
    steady_world m _ refl refl (acquired_keeps m.world.store e (find_play m.world.scheds.items node.0)).long
    (changed_nodes node.0 (λ p. play_edited (frames_in m.world.store p.buffer) m.context.time e p) (λ p. edited_id (frames_in m.world.store p.buffer) m.context.time e p) m.world.scheds.items)
    (edited_valid m (edit.Source node e) accepted steady) steady
steady_edited m (edit.Attribute node e) none accepted steady =
    steady_world m _ refl (length-changed node.0 (attribute_set e) m.world.nodes) (omega arith) refl (edited_valid m (edit.Attribute node e) accepted steady) steady
steady_edited m (edit.SetCurve node curve) none accepted steady =
    steady_world m _ refl (length-changed node.0 (node_with_curve curve) m.world.nodes) (omega arith) refl (edited_valid m (edit.SetCurve node curve) accepted steady) steady
steady_edited m (edit.Param id e) none accepted steady = steady_world m _ refl refl (omega arith) refl (edited_valid m (edit.Param id e) accepted steady) steady
steady_edited m (edit.Buffers e) none accepted steady = steady_world m _ refl refl (buffers_stay m.world.store e) refl (edited_valid m (edit.Buffers e) accepted steady) steady

-- a world that was edited so, or was not for want of memory
pub steady_either : (context : ContextView) (w new : World) (book : BookView) (e : Edit) (r : Result (Unit {0}) NoMemory) → OnOk r (plain new ≡ edited (plain w) context.time e) → OnErr r (plain new ≡ plain w)
    → creates e ≡ false → IsAccepted (machine_of context w book) e → IsSteady (machine_of context w book) → IsSteady (machine_of context new book)
steady_either context w new book e (Ok v) done failed none accepted steady =
    let m : Machine = machine_of context w book in
    subst (λ (x : World). IsSteady (with_world m x)) (sym done) (steady_edited m e none accepted steady)
steady_either context w new book e (Err r) done failed none accepted steady =
    let m : Machine = machine_of context w book in
    subst (λ (x : World). IsSteady (with_world m x)) (sym failed) steady

-- ---- a new node

new_named : (names : List (ℕ × List ℕ)) (name : List ℕ) (node : ℕ) (play : Option Play) → IsOwn node play
    → All (λ i. IsSome (first_name_of (first_named names (Node (record { 0 = node })) name) i)) (map (λ (p : Play). p.id.0) (plays_of play))
new_named names name node (Some p) own =
    All-cons (λ i. IsSome (first_name_of (first_named names (Node (record { 0 = node })) name) i)) p.id.0 []
    (subst (λ i. IsSome (first_name_of (first_named names (Node (record { 0 = node })) name) i)) (sym (own p refl)) (named_new names node name)) (λ k d l. absurd (omega arith))
new_named names name node None own = λ k d l. absurd (omega arith)

-- with its schedule, if it is a source, and with buffers that are acquired, of which none goes
steady_created : (m : Machine) (name : List ℕ) (kind : Kind) (play : Option Play) (store : List AudioBuffer) → length m.world.store ≤ length store → IsOwn (length m.world.nodes) play
    → IsValid (with_store (created m.world kind play m.context.time) store) → IsSteady m
    → IsSteady (record m {
      world = with_store (created m.world kind play m.context.time) store;
      bindings = bound m.bindings name (Node (record { 0 = length m.world.nodes }));
      first_names = first_named m.first_names (Node (record { 0 = length m.world.nodes })) name;
    })
steady_created m name kind play store buffers own valid steady =
    let count = length m.world.nodes in
    let long = length-append m.world.nodes (node_of kind m.context.time ∷ []) in
    let next : World = with_store (created m.world kind play m.context.time) store in
    let first_names = first_named m.first_names (Node (record { 0 = count })) name in
    record {
      valid = valid;
      spec = steady.spec;
      time = steady.time;
      bound = All-bound (IsThere next) m.bindings name (Node (record { 0 = count })) (λ k d l. there_still m.world next (omega (arith, long)) buffers _ (steady.bound k d l)) (omega (arith, long));
      named = rw (map-append (λ (p : Play). p.id.0) m.world.scheds.items (plays_of play))
          (All-append (λ i. IsSome (first_name_of first_names i)) _ _ (named_still m.first_names (Node (record { 0 = count })) name _ steady.named) (new_named m.first_names name count play own));
    }

-- a new buffer
steady_buffer : (m : Machine) (name : List ℕ) (e : BufferEdit) → length m.world.store < length (buffers_edited m.world.store e) → IsAccepted m (edit.Buffers e) → IsSteady m → IsSteady (with_edit m (edit.Buffers e) (Some name))
steady_buffer m name e more accepted steady =
    let next : World = with_store m.world (buffers_edited m.world.store e) in
    record {
      valid = edited_valid m (edit.Buffers e) accepted steady;
      spec = steady.spec;
      time = steady.time;
      bound = All-bound (IsThere next) m.bindings name (Buffer (record { 0 = length m.world.store })) (λ k d l. there_still m.world next (omega arith) (omega (arith, more)) _ (steady.bound k d l)) more;
      named = steady.named;
    }

-- an edit that creates what is given a name
pub steady_named : (m : Machine) (e : Edit) (name : List ℕ) → creates e ≡ true → IsAccepted m e → IsSteady m → IsSteady (with_edit m e (Some name))
steady_named m (edit.Create kind) name new accepted steady =
    steady_created m name kind (new_play (length m.world.nodes) kind) m.world.store (omega arith) (new_play_is m.world kind).own (edited_valid m (edit.Create kind) accepted steady) steady
steady_named m (edit.CreateBufferSource rate buffer points) name new accepted steady =
    steady_created m name (BufferKind rate) (Some (new_source (length m.world.nodes) rate buffer points)) m.world.store (omega arith) (new_source_is m.world rate buffer points accepted.named).own
    (edited_valid m (edit.CreateBufferSource rate buffer points) accepted steady) steady
steady_named m (edit.CreateConvolver buffer) name new accepted steady =
    steady_created m name (convolver_of m.world.store buffer) None (frozen_in m.world.store buffer) (frozen_keeps m.world.store buffer).long (λ p is. absurd cc)
    (edited_valid m (edit.CreateConvolver buffer) accepted steady) steady
steady_named m (edit.Connect edge) name new accepted steady = absurd cc
steady_named m (edit.Disconnect from form) name new accepted steady = absurd cc
steady_named m (edit.Source node e) name new accepted steady = absurd cc
steady_named m (edit.Attribute node e) name new accepted steady = absurd cc
steady_named m (edit.SetCurve node curve) name new accepted steady = absurd cc
steady_named m (edit.Param id e) name new accepted steady = absurd cc
steady_named m (edit.Buffers (buffer_edit.Create channels frames rate)) name new accepted steady =
    steady_buffer m name (buffer_edit.Create channels frames rate) (omega (arith, length-append m.world.store (silence channels frames rate ∷ []))) accepted steady
steady_named m (edit.Buffers (buffer_edit.Adopt wav)) name new accepted steady =
    steady_buffer m name (buffer_edit.Adopt wav) (omega (arith, length-append m.world.store (recorded wav ∷ []))) accepted steady
steady_named m (edit.Buffers (buffer_edit.Write buffer channel samples first)) name new accepted steady = absurd cc

pub named_machine : (m : Machine) (name : List ℕ) (e : Edit) (world : World) (bindings : List (List ℕ × Object)) (first_names : List (ℕ × List ℕ))
    → world ≡ edited m.world m.context.time e → bindings ≡ bound m.bindings name (created_by m e) → first_names ≡ first_named m.first_names (created_by m e) name
    → record m { world = world; bindings = bindings; first_names = first_names } ≡ with_edit m e (Some name)
named_machine m name e world bindings first_names world_is bindings_are names_are =
    λ i. record m { world = world_is i; bindings = bindings_are i; first_names = names_are i }

-- ---- the context

-- a context with the same numbers
pub steady_context : (context new : ContextView) (w : World) (book : BookView) → new.spec ≡ context.spec → new.time ≤ 33555456 → IsSteady (machine_of context w book) → IsSteady (machine_of new w book)
steady_context context new w book spec time steady = record { valid = steady.valid; spec = spec ∙ steady.spec; time = time; bound = steady.bound; named = steady.named }

-- ---- a quantum

pub steady_turned : (context new : ContextView) (w next : World) (book : BookView) (last : ℕ) → plain next ≡ ended_marked last (plain w) → IsValid (plain next) → new.spec ≡ context.spec → new.time ≤ 33555456
    → IsSteady (machine_of context w book) → IsSteady (machine_of new next book)
steady_turned context new w next book last is valid spec time steady =
    let same : play_nodes (plain next) ≡ play_nodes (plain w) = ap play_nodes is ∙ marked_nodes last w.scheds.items in
    record {
      valid = valid;
      spec = spec ∙ steady.spec ∙ sym (ap (λ (x : World). x.spec) is);
      time = time;
      bound = λ k d l.
          there_still (plain w) (plain next) (let nodes = ap (λ (x : World). length x.nodes) is in omega (arith, nodes)) (let buffers = ap (λ (x : World). length x.store) is in omega (arith, buffers)) _ (steady.bound k d l);
      named = rw same steady.named;
    }

-- a context after its next quantum, whatever that leads to
pub turned_spec : (c : ContextView) → (after_turn c).spec ≡ c.spec
unfolding after_turn
turned_spec c = by_turn (turn_of c)
  where
    by_turn : (t : Turn) → (turned_by t (record c { time = next c })).spec ≡ c.spec
    by_turn Went = refl
    by_turn (Due ordinal) = refl
    by_turn (Done ordinal) = refl

pub turned_time : (c : ContextView) → (after_turn c).time ≡ next c
unfolding after_turn
turned_time c = by_turn (turn_of c)
  where
    by_turn : (t : Turn) → (turned_by t (record c { time = next c })).time ≡ next c
    by_turn Went = refl
    by_turn (Due ordinal) = refl
    by_turn (Done ordinal) = refl

pub turned_started : (c : ContextView) → (after_turn c).started ≡ c.started
unfolding after_turn
turned_started c = by_turn (turn_of c)
  where
    by_turn : (t : Turn) → (turned_by t (record c { time = next c })).started ≡ c.started
    by_turn Went = refl
    by_turn (Due ordinal) = refl
    by_turn (Done ordinal) = refl

pub due_suspends : (c : ContextView) (ordinal : ℕ) → turn_of c ≡ Due ordinal → (after_turn c).state ≡ Suspended
unfolding after_turn
due_suspends c ordinal is = ap (λ t. (turned_by t (record c { time = next c })).state) is

pub done_closes : (c : ContextView) (ordinal : ℕ) → turn_of c ≡ Done ordinal → (after_turn c).state ≡ Closed
unfolding after_turn
done_closes c ordinal is = ap (λ t. (turned_by t (record c { time = next c })).state) is

-- what a turn led to, by the numbers of the world
pub turned_machine : (turn : Turn) (old new : Machine) → old.context.spec ≡ old.world.spec → new.context.spec ≡ new.world.spec → context_turned turn old.context new.context → IsTurned turn old new
turned_machine Went old new old_spec new_spec is = (is.0, subst (λ (s : ContextSpec). new.context.time < s.length) new_spec is.1)
turned_machine (Due ordinal) old new old_spec new_spec is = subst (λ (s : ContextSpec). new.context.time < s.length) new_spec is.1
turned_machine (Done ordinal) old new old_spec new_spec is = (is.0, subst (λ (s : ContextSpec). s.length ≤ new.context.time) old_spec is.1)
