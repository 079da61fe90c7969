-- A renderer stays settled in a world through what a quantum changes.
use Rattle.std.proofs.Common.{ℕ, ℤ, zero, suc, ◌≡◌, ◌+◌, ◌<◌, ◌*◌, List, [], ◌∷◌, length, map, slice_index_or, Bool, true, false, cond, Option, Some, None, inl, inr, refl, sym, ◌∙◌, ap, arith, subst}
use Rattle.std.specs.Prelude.{◌⊎◌, option_map, option_and_then, slice_get, nat_lt, not, ◌==◌, if◌then◌else◌}
use Rattle.std.specs.List.{position, position_or_len}
use Rattle.std.specs.Option.{option_map_or}
use Rattle.std.proofs.lemmas.Option.{slice_get-map}
use Rattle.std.proofs.lemmas.List.{get_or-map, length-map}
use Rattle.wa_base.specs.Contexts.{quantum_of}
use Rattle.wa_base.specs.declared.graph_names.ParamId.{ParamId}
use Rattle.law_base.specs.Members.{IsIn}
use Rattle.meaning.specs.declared.params.Param.{Param}
use Rattle.meaning.specs.Automation.{automated, slot_set}
use Rattle.automation.specs.Levels.{LevelView, HasRoom, Keeps, KeepsUntil, StandsUntil, level_of}
use Rattle.automation.specs.Ready.{AutomationView, AreRunning, IsHeld, param_of}
use Rattle.wa_base.specs.declared.graph_names.End.{End}
use Rattle.node_table.specs.declared.rows.Channels.{Channels}
use Rattle.node_table.specs.declared.rows.Channels.TheVariants.{Always, OfInput, OfBuffer}
use Rattle.meaning.specs.declared.world.World.{World}
use Rattle.node_table.specs.declared.kinds.Kind.{Kind}
use Rattle.node_table.specs.declared.kinds.Kind.TheVariants.{Destination, Constant, Buffer, Gain, Delay, Splitter, Merger, Shaper, Causal}
use Rattle.sched_source.specs.Schedule.{plays_at}
use Rattle.meaning.specs.Plays.{rescheduled}
use Rattle.meaning.specs.declared.scheds.Play.{Play}
use Rattle.meaning.specs.World.{plain, kind_of, find_play, sounds_at, param_id, intrinsic_value, is_k_rate}
use Rattle.quantum_blocks.specs.Blocks.{BlockView}
use Rattle.quantum_render.specs.Idle.{HasLevel, IsQuiet, IsStill, IsUnheard}
use Rattle.wa_base.specs.declared.graph_names.ParamName.TheVariants as name
use Rattle.meaning.proofs.Sounding.{slots_unheard}
use Rattle.meaning.specs.declared.automation.ParamEdit.{ParamEdit}
use Rattle.meaning.specs.declared.sources.SourceEdit.{SourceEdit}
use Rattle.meaning.specs.declared.buffers.BufferEdit.{BufferEdit}
use Rattle.meaning.specs.declared.change.Edit.{Edit}
use Rattle.meaning.specs.declared.change.Edit.TheVariants as edit
use Rattle.meaning.specs.Changes.{edited}
use Rattle.meaning.specs.Sources.{source_edited, with_store, buffers_edited}
use Rattle.wa_base.specs.declared.graph_names.NodeId.{NodeId}
use Rattle.control_msgs.specs.declared.message.Message.{Message}
use Rattle.control_msgs.specs.declared.message.Message.TheVariants as message
use Rattle.control_msgs.specs.Messages.{ends_by, marked, slots_set, ended_marked, after_message}
use Rattle.quantum_render.specs.Plans.{HasChannels, IsSteady, AreSteady}
use Rattle.quantum_render.specs.Stands.{RendererView, IsSettled, HoldsLevels, Rests}
use Rattle.session.specs.declared.render_side.Standing.{Standing}
use Rattle.session.specs.declared.render_side.Standing.TheVariants.{Changed, Unchanged, Edited, Settled}
use Rattle.session.specs.View.{IsStanding}

-- ---- what is kept hangs on no current value

-- where parameters were moved on, there is still room for each
room_moved : (R : ParamId → Type 0) (first : ℕ) (ps : List Param) → ((p : Param) → IsIn p ps → R p.id) → (p : Param) → IsIn p (map (slot_set first) ps) → R p.id
room_moved R first [] each p is = absurd is
room_moved R first (q ∷ qs) each p (inl same) = subst (λ (x : Param). R x.id) (sym same) (each q (inl refl))
room_moved R first (q ∷ qs) each p (inr later) = room_moved R first qs (λ x is. each x (inr is)) p later

keeps_moved : (q from first : ℕ) (level : LevelView) (p : Param) → Keeps q from level p → Keeps q from level (slot_set first p)
keeps_moved q from first level p keeps = λ later up. let is = keeps later up in record { room = is.room; rate = is.rate; values = is.values }

-- what holds of a parameter in its place, and lasts when its slot changes
place_moved : (P : Param → Type 0) (first : ℕ) → ((p : Param) → P p → P (slot_set first p)) → (ps : List Param) (i : ℕ) (d : Param) → P (slice_index_or ps i d) → P (slice_index_or (map (slot_set first) ps) i d)
place_moved P first lasts [] i d is = is
place_moved P first lasts (p ∷ ps) zero d is = lasts p is
place_moved P first lasts (p ∷ ps) (suc i) d is = place_moved P first lasts ps i d is

held_moved : (ps : List Param) (from first : ℕ) (a : AutomationView) → IsHeld ps from a → IsHeld (map (slot_set first) ps) from a
held_moved ps from first a is =
    let long = length-map ps (slot_set first) in
    record {
      running = subst (λ n. AreRunning n a.running) (sym long) is.running;
      room = room_moved (λ (i : ParamId). (i.node.0 < length a.levels) × HasRoom a.quantum (level_of a.levels i.node.0)) first ps is.room;
      others = λ i d low.
          let there : i < length ps = omega (arith, low, long) in
          subst (λ (x : Param). IsIn i (map param_of a.running) ⊎ Keeps a.quantum from (level_of a.levels x.id.node.0) x) (sym (get_or-map (slot_set first) ps i d d there))
          (elim (is.others i d there) [
            | inl runs ↦ inl runs
            | inr keeps ↦ inr (keeps_moved a.quantum from first (level_of a.levels (slice_index_or ps i d).id.node.0) (slice_index_or ps i d) keeps)
          ]);
      rests = λ r runs. let old = is.rests r runs in record {
        level = λ d. place_moved (λ (p : Param). KeepsUntil a.quantum from r.until (level_of a.levels p.id.node.0) p) first
            (λ p keeps later up within. let own = keeps later up within in record { room = own.room; rate = own.rate; values = own.values }) ps r.param d (old.level d);
        place = λ d. place_moved (λ (p : Param). StandsUntil a.quantum from r.until r.cursor p) first (λ p stands. stands) ps r.param d (old.place d);
      };
    }

-- ---- a world with the context, the nodes and the connections of another one

abbrev like : World → World → World
like w other = record w { params = other.params; scheds = other.scheds; store = other.store; graph = record other.graph { value = w.graph.value } }

module _ (w other : World) (counts : List ℕ) where
  still_steady : (d : End) → IsSteady w counts d → IsSteady (like w other) counts d
  still_steady d is = record { plain = is.plain; channels = is.channels; row = is.row; counted = by_channels is.channels is.counted }
    where
      by_channels : (c : Channels) → HasChannels w counts c d → HasChannels (like w other) counts c d
      by_channels (Always channels) has = has
      by_channels OfInput has = has
      by_channels OfBuffer has = has

  all_steady : (order mute timed : List End) → AreSteady w order mute timed counts → AreSteady (like w other) order mute timed counts
  all_steady order mute timed are = record {
    one = are.one;
    there = are.there;
    steady = λ d is. elim (are.steady d is) [
      | inl hangs ↦ inl hangs
      | inr own ↦ inr (still_steady d own)
    ];
  }

settled_like : (r : RendererView) (w other : World) → IsSettled r w → IsSettled r (like w other)
settled_like r w other is = record {
  fitted = record {
    plan = is.fitted.plan;
    cycles = is.fitted.cycles;
    range = record { places = is.fitted.range.places; low = is.fitted.range.low; high = is.fitted.range.high; lanes = is.fitted.range.lanes; mono = is.fitted.range.mono };
    blocks = record { places = is.fitted.blocks.places; lanes = is.fitted.blocks.lanes; frames = is.fitted.blocks.frames };
    causal_rooms = is.fitted.causal_rooms;
    delay_rooms = is.fitted.delay_rooms;
    causal_known = is.fitted.causal_known;
    delays_known = is.fitted.delays_known;
    causal_all = is.fitted.causal_all;
    delays_all = is.fitted.delays_all;
  };
  steady = all_steady w other r.counts r.order r.muted r.timed is.steady;
}

-- ---- idle ends hang on nodes, connections, sources and timelines alone

-- when sources sound, and which levels stay, is the same in another world
record IsAlike (w other : World) : Type 0 where
  sounds : (n frame : ℕ) → sounds_at (like w other) n frame ≡ sounds_at w n frame
  levels : (id : ParamId) (from until : ℕ) (value : ℤ) → HasLevel w id from until value → HasLevel (like w other) id from until value

module _ (w other : World) (alike : IsAlike w other) where
  unheard_like : (n from until : ℕ) → IsUnheard w n from until → IsUnheard (like w other) n from until
  unheard_like n from until is frame low high = alike.sounds n frame ∙ is frame low high

  quiet_like : (counts : List ℕ) (from until : ℕ) (e : End) (kind : Kind) → IsQuiet w counts from until e kind → IsQuiet (like w other) counts from until e kind
  quiet_like counts from until e Destination is = tt
  quiet_like counts from until e (Constant offset) is = unheard_like e.node.0 from until is
  quiet_like counts from until e (Buffer rate) is = (unheard_like e.node.0 from until is.0, is.1)
  quiet_like counts from until e (Gain gain) is = tt
  quiet_like counts from until e (Delay longest time capacity) is = absurd is
  quiet_like counts from until e (Splitter ports) is = tt
  quiet_like counts from until e (Merger ports) is = tt
  quiet_like counts from until e (Shaper curve was) is = absurd is
  quiet_like counts from until e (Causal equation) is = absurd is

  still_like : (counts : List ℕ) (from until : ℕ) (marks : List Bool) (blocks : List BlockView) (e : End) (kind : Kind) → IsStill w counts from until marks blocks e kind → IsStill (like w other) counts from until marks blocks e kind
  still_like counts from until marks blocks e Destination is = absurd is
  still_like counts from until marks blocks e (Constant offset) is = record {
    value = is.value;
    fits = is.fits;
    sounds = λ frame low high. alike.sounds e.node.0 frame ∙ is.sounds frame low high;
    alone = is.alone;
    level = alike.levels (param_id e.node.0 name.Offset) from until is.value is.level;
    held = is.held;
  }
  still_like counts from until marks blocks e (Buffer rate) is = absurd is
  still_like counts from until marks blocks e (Gain gain) is = record {
    gain = is.gain;
    fits = is.fits;
    edge = is.edge;
    only = is.only;
    leads = is.leads;
    marked = is.marked;
    count = is.count;
    level = alike.levels (param_id e.node.0 name.Gain) from until is.gain is.level;
    scaled = is.scaled;
    fit = is.fit;
  }
  still_like counts from until marks blocks e (Delay longest time capacity) is = absurd is
  still_like counts from until marks blocks e (Splitter ports) is = absurd is
  still_like counts from until marks blocks e (Merger ports) is = absurd is
  still_like counts from until marks blocks e (Shaper curve was) is = absurd is
  still_like counts from until marks blocks e (Causal equation) is = absurd is

  rests_like : (r : RendererView) → Rests r w → Rests r (like w other)
  rests_like r rests known e in_e marked =
      let is = rests known e in_e marked in
      let from : ℕ = quantum_of r.spec * r.quanta in
      record {
        unmuted = is.unmuted;
        why = elim is.why [
          | inl silent ↦ inl (record { quiet = quiet_like r.counts from r.rest.until e (kind_of w e.node.0) silent.quiet; heard = silent.heard; silent = silent.silent })
          | inr still ↦ inr (still_like r.counts from r.rest.until r.rest.marks r.blocks e (kind_of w e.node.0) still)
        ];
      }

-- ---- a mark is not heard

same_id : (next : ℕ) (p : Play) → (marked next p).id ≡ p.id
same_id next p = by_test (ends_by next p.sched)
  where
    by_test : (b : Bool) → (if b then rescheduled p (record p.sched { ended = true }) else p).id ≡ p.id
    by_test true = refl
    by_test false = refl

same_sound : (next frame : ℕ) (p : Play) → plays_at (marked next p).sched frame ≡ plays_at p.sched frame
same_sound next frame p = by_test (ends_by next p.sched)
  where
    by_test : (b : Bool) → plays_at ((if b then rescheduled p (record p.sched { ended = true }) else p).sched) frame ≡ plays_at p.sched frame
    by_test true = refl
    by_test false = refl

module _ (next node : ℕ) where
  abbrev is_own : Play → Bool
  is_own p = p.id.0 == node

  as_far : (plays : List Play) → position_or_len is_own (map (marked next) plays) ≡ position_or_len is_own plays
  as_far [] = refl
  as_far (p ∷ ps) =
      ap (λ (id : NodeId). cond (not (id.0 == node)) (1 + position_or_len is_own (map (marked next) ps)) 0) (same_id next p)
      ∙ ap (λ k. cond (not (is_own p)) (1 + k) 0) (as_far ps)

  same_place : (plays : List Play) → position is_own (map (marked next) plays) ≡ position is_own plays
  same_place plays =
      ap (λ k. cond (nat_lt k (length (map (marked next) plays))) (Some k) None) (as_far plays)
      ∙ ap (λ n. cond (nat_lt (position_or_len is_own plays) n) (Some (position_or_len is_own plays)) None) (length-map plays (marked next))

  found_marked : (plays : List Play) → find_play (map (marked next) plays) node ≡ option_map (marked next) (find_play plays node)
  found_marked plays = ap (option_and_then (slice_get (map (marked next) plays))) (same_place plays) ∙ by_place (position is_own plays)
    where
      by_place : (o : Option ℕ) → option_and_then (slice_get (map (marked next) plays)) o ≡ option_map (marked next) (option_and_then (slice_get plays) o)
      by_place None = refl
      by_place (Some i) = slice_get-map (marked next) plays i

marked_sounds : (w : World) (next n frame : ℕ) → sounds_at (ended_marked next w) n frame ≡ sounds_at w n frame
marked_sounds w next n frame = ap (λ (o : Option Play). option_map_or (λ (p : Play). plays_at p.sched frame) o false) (found_marked next n w.scheds.items) ∙ by_play (find_play w.scheds.items n)
  where
    by_play : (o : Option Play) → option_map_or (λ (p : Play). plays_at p.sched frame) (option_map (marked next) o) false ≡ option_map_or (λ (p : Play). plays_at p.sched frame) o false
    by_play None = refl
    by_play (Some p) = same_sound next frame p

standing_like : (s : Standing) (r : RendererView) (w other : World) → (HoldsLevels r w → HoldsLevels r (like w other)) → IsAlike w other → IsStanding s r w → IsStanding s r (like w other)
standing_like Changed r w other levels alike is = tt
standing_like Unchanged r w other levels alike is = tt
standing_like Edited r w other levels alike is = settled_like r w other is
standing_like Settled r w other levels alike is = (settled_like r w other is.0, levels is.1, rests_like w other alike r is.2)

-- the current values of parameters are not heard
slots_alike : (w : World) (first : ℕ) → IsAlike w (slots_set first w)
slots_alike w first = record {
  sounds = λ n frame. refl;
  levels = λ id from until value is begin m low next now.
      subst (λ (x : World). intrinsic_value x id (begin + (if is_k_rate x id then 0 else m)) ≡ value) (sym (slots_unheard w first)) (is begin m low next now);
}

-- in a world and in what a meaning sees of it
pub standing_raw : (s : Standing) (r : RendererView) (w : World) → IsStanding s r (plain w) → IsStanding s r w
standing_raw s r w is = standing_like s r (plain w) w (λ held. held) (record { sounds = λ n frame. refl; levels = λ id from until value is. is }) is

pub standing_plain : (s : Standing) (r : RendererView) (w : World) → IsStanding s r w → IsStanding s r (plain w)
standing_plain s r w is = standing_like s r w (plain w) (λ held. held) (record { sounds = λ n frame. refl; levels = λ id from until value is. is }) is

-- after what a quantum changes
pub standing_quiet : (s : Standing) (r : RendererView) (w : World) (m : Message) → ((first : ℕ) × (m ≡ message.Slots first)) ⊎ ((next : ℕ) × (m ≡ message.Ended next)) → IsStanding s r w → IsStanding s r (after_message w m)
standing_quiet s r w m (inl slots) is =
    subst (λ (x : Message). IsStanding s r (after_message w x)) (sym slots.1) (standing_like s r w (slots_set slots.0 w) (held_moved w.params.items (quantum_of r.spec * r.quanta) slots.0 r.automation) (slots_alike w slots.0) is)
standing_quiet s r w m (inr ended) is = subst (λ (x : Message). IsStanding s r (after_message w x)) (sym ended.1) (standing_like s r w (ended_marked ended.0 w) (λ held. held) (record { sounds = marked_sounds w ended.0; levels = λ id from until value is. is }) is)

-- after an edit of buffers
pub standing_apart : (s : Standing) (r : RendererView) (w : World) (now : ℕ) (e : Edit) (of_buffers : BufferEdit) → e ≡ edit.Buffers of_buffers → IsStanding s r w → IsStanding s r (edited w now e)
standing_apart s r w now e of_buffers named is =
    subst (λ (x : Edit). IsStanding s r (edited w now x)) (sym named) (standing_like s r w (with_store w (buffers_edited w.store of_buffers)) (λ held. held) (record { sounds = λ n frame. refl; levels = λ id from until value is. is }) is)

-- and of a source or a parameter
abbrev pub IsOfSourceOrParam : Edit → Type 0
IsOfSourceOrParam e = ((node : NodeId) × (of_source : SourceEdit) × (e ≡ edit.Source node of_source)) ⊎ ((id : ParamId) × (of_param : ParamEdit) × (e ≡ edit.Param id of_param))

settled_edited : (r : RendererView) (w : World) (now : ℕ) (e : Edit) → IsOfSourceOrParam e → IsSettled r w → IsSettled r (edited w now e)
settled_edited r w now e (inl source) is = subst (λ (x : Edit). IsSettled r (edited w now x)) (sym source.2) (settled_like r w (source_edited w now source.0.0 source.1) is)
settled_edited r w now e (inr param) is = subst (λ (x : Edit). IsSettled r (edited w now x)) (sym param.2) (settled_like r w (automated w now param.0 param.1) is)

module _ (s : Standing) (r : RendererView) (w : World) (now : ℕ) (e : Edit) (named : IsOfSourceOrParam e) (is : IsStanding s r w) where
  pub settled_before : s ≡ Settled → IsSettled r (edited w now e)
  settled_before settled = settled_edited r w now e named ((subst (λ x. IsStanding x r w) settled is).0)

  pub standing_before : (s ≡ Changed) ⊎ ((s ≡ Unchanged) ⊎ (s ≡ Edited)) → IsStanding s r (edited w now e)
  standing_before (inl changed) = subst (λ x. IsStanding x r (edited w now e)) (sym changed) tt
  standing_before (inr (inl unchanged)) = subst (λ x. IsStanding x r (edited w now e)) (sym unchanged) tt
  standing_before (inr (inr own)) = subst (λ x. IsStanding x r (edited w now e)) (sym own) (settled_edited r w now e named (subst (λ x. IsStanding x r w) own is))
