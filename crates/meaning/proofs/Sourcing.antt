-- Worlds stay valid, whatever becomes of sources and buffers.
use Rattle.std.proofs.Common.{ℕ, zero, suc, ◌≡◌, ◌<◌, ◌≤◌, ◌==◌, length, List, [], ◌∷◌, ◌++◌, Bool, true, false, Option, Some, None, refl, sym, ◌∙◌, ap, subst, arith}
use Rattle.std.specs.Prelude.{if◌then◌else◌, ◌&&◌, unsigned_abs, slice_get, slice_index_or, is_some, unwrap_or, option_and_then, option_map, IsSome}
use Rattle.std.specs.Option.{option_map_or}
use Rattle.std.proofs.lemmas.Bool.Decides.{nat_tests}
use Rattle.std.proofs.lemmas.Option.{get_or_from_slice_get}
use Rattle.wa_base.specs.declared.exceptions.Exc.{Exc}
use Rattle.wa_base.specs.declared.exceptions.Exc.TheVariants.{WrongType, NotSupported, InvalidState}
use Rattle.wa_base.specs.declared.features.Feature.TheVariants.{LateBuffer}
use Rattle.wa_base.specs.declared.graph_names.BufId.{BufId}
use Rattle.law_base.specs.Members.{IsIn}
use Rattle.buffer_store.specs.declared.buffers.Buffer.{Buffer as AudioBuffer}
use Rattle.buffer_store.specs.Buffers.{frozen, changed_at, AreBuffers}
use Rattle.buffer_store.proofs.BufferLists.{are_buffers_changed}
use Rattle.buffer_store.proofs.Writing.{keeps_frozen}
use Rattle.sched_source.specs.declared.content.Content.{Content}
use Rattle.sched_source.specs.declared.content.Loop.{Loop}
use Rattle.sched_source.specs.Playback.{unstarted, begun, absolute}
use Rattle.sched_source.specs.Schedule.{Schedule, constant, buffer}
use Rattle.node_table.specs.declared.kinds.Kind.{Kind}
use Rattle.node_table.specs.declared.kinds.Kind.TheVariants.{Buffer}
use Rattle.node_table.specs.declared.rows.Plays.{Plays}
use Rattle.node_table.specs.declared.rows.Plays.TheVariants as played
use Rattle.node_table.specs.Kinds.{row}
use Rattle.meaning.specs.declared.scheds.Play.{Play}
use Rattle.meaning.specs.declared.sources.SourceEdit.{SourceEdit}
use Rattle.meaning.specs.declared.sources.SourceEdit.TheVariants as edit
use Rattle.meaning.specs.declared.world.World.{World}
use Rattle.meaning.specs.World.{kind_of, sched_of, first_sched, no_loop, not_started, find_play, frames_in}
use Rattle.meaning.specs.Validity.{IsValid, IsPlay, IsConstantPlay, IsBufferPlay}
use Rattle.meaning.specs.Plays.{new_source, play_edited, frozen_in, acquires, acquired, with_part}
use Rattle.meaning.specs.Sources.{with_store, source_edited, source_refusal, IsBufferOf, IsNamedBy}
use Rattle.meaning.specs.Changes.{new_play}
use Rattle.meaning.proofs.FirstItems.{play_position, found_is_in, at_place}
use Rattle.meaning.proofs.Valid.{valid_of, with_play_valid}
use Rattle.meaning.proofs.Creating.{IsNewPlay, IsOwn}

-- ---- the schedule of a new node

-- what is asked of a schedule that is there
by_some : (P : Play → Type 0) (q p : Play) → Some q ≡ Some p → P q → P p
by_some P q p is has = subst P (ap (λ o. unwrap_or o q) is) has

own_play : (node : ℕ) (sched : Option Schedule) → IsOwn node (option_map (not_started node) sched)
own_play node None p is = absurd cc
own_play node (Some sched) p is = by_some (λ q. q.id.0 ≡ node) (not_started node sched) p is refl

same_some : (node : ℕ) (sched : Option Schedule) → is_some (option_map (not_started node) sched) ≡ is_some sched
same_some node None = refl
same_some node (Some sched) = refl

new_fits : (store : List AudioBuffer) (node : ℕ) (plays : Option Plays) (p : Play) → option_map (not_started node) (option_map sched_of plays) ≡ Some p → IsPlay store plays p
new_fits store node None p is = absurd cc
new_fits store node (Some played.Value) p is = by_some IsConstantPlay (not_started node constant) p is (record { content = refl; buffer = refl })
new_fits store node (Some (played.Content rate)) p is =
    by_some (IsBufferPlay store rate) (not_started node (buffer rate no_loop)) p is
    (record { content = unstarted rate no_loop; plays = refl; rate_of = refl; there = tt; length_of = λ none. let never : false ≡ true = none in absurd cc })

pub new_play_is : (w : World) (kind : Kind) → IsNewPlay w kind (new_play (length w.nodes) kind)
new_play_is w kind = record {
  own = own_play (length w.nodes) (first_sched kind);
  sources = same_some (length w.nodes) (first_sched kind);
  fits = new_fits w.store (length w.nodes) (row kind).plays;
}

pub new_source_is : (w : World) (rate : ℕ) (source : Option BufId) (points : Loop) → IsBufferOf w.store source
    → IsNewPlay w (Buffer rate) (Some (new_source (length w.nodes) rate source points))
new_source_is w rate source points there = record {
  own = λ p is. by_some (λ q. q.id.0 ≡ length w.nodes) (new_source (length w.nodes) rate source points) p is refl;
  sources = refl;
  fits = λ p is. by_some (IsBufferPlay w.store rate) (new_source (length w.nodes) rate source points) p is
      (record { content = unstarted rate points; plays = refl; rate_of = refl; there = there; length_of = λ none. let never : false ≡ true = none in absurd cc });
}

-- ---- another store

-- a store keeps the buffers of another one, each with its number of frames
pub record KeepsFrames (old new : List AudioBuffer) : Type 0 where
  pub long : length old ≤ length new
  pub frames : (i : ℕ) → i < length old → option_map_or (λ (b : AudioBuffer). b.shape.frames) (slice_get new i) 0 ≡ option_map_or (λ (b : AudioBuffer). b.shape.frames) (slice_get old i) 0

there_too : (old new : List AudioBuffer) → KeepsFrames old new → (source : Option BufId) → IsBufferOf old source → IsBufferOf new source
there_too old new keeps None there = tt
there_too old new keeps (Some b) there = omega (arith, keeps.long)

same_frames : (old new : List AudioBuffer) → KeepsFrames old new → (source : Option BufId) → IsBufferOf old source → frames_in new source ≡ frames_in old source
same_frames old new keeps None there = refl
same_frames old new keeps (Some b) there = keeps.frames b.0 there

kept_play : (old new : List AudioBuffer) → KeepsFrames old new → (plays : Option Plays) (p : Play) → IsPlay old plays p → IsPlay new plays p
kept_play old new keeps None p is = is
kept_play old new keeps (Some played.Value) p is = is
kept_play old new keeps (Some (played.Content rate)) p is = record {
  content = is.content;
  plays = is.plays;
  rate_of = is.rate_of;
  there = there_too old new keeps p.buffer is.there;
  length_of = λ begun. is.length_of begun ∙ sym (same_frames old new keeps p.buffer is.there);
}

pub with_store_valid : (w : World) (store : List AudioBuffer) → KeepsFrames w.store store → AreBuffers store → IsValid w → IsValid (with_store w store)
with_store_valid w store keeps are valid =
    valid_of w (with_store w store) refl refl refl refl refl (λ p is. kept_play w.store store keeps (row (kind_of w p.id.0)).plays p (valid.scheds.kinds p is)) are valid

-- a store with one buffer more, or one changed that keeps its frames
pub keeps_more : (old : List AudioBuffer) (b : AudioBuffer) → KeepsFrames old (old ++ b ∷ [])
keeps_more old b = record { long = long old; frames = frames old }
  where
    long : (bs : List AudioBuffer) → length bs ≤ length (bs ++ b ∷ [])
    long [] = omega arith
    long (x ∷ bs) = let l = long bs in omega arith

    frames : (bs : List AudioBuffer) (i : ℕ) → i < length bs
        → option_map_or (λ (x : AudioBuffer). x.shape.frames) (slice_get (bs ++ b ∷ []) i) 0 ≡ option_map_or (λ (x : AudioBuffer). x.shape.frames) (slice_get bs i) 0
    frames [] i l = absurd (omega arith)
    frames (x ∷ bs) zero l = refl
    frames (x ∷ bs) (suc i) l = frames bs i (omega arith)

pub keeps_changed : (old : List AudioBuffer) (i : ℕ) (change : AudioBuffer → AudioBuffer) → ((b : AudioBuffer) → (change b).shape.frames ≡ b.shape.frames) → KeepsFrames old (changed_at i change old)
keeps_changed old i change same = record { long = long i old; frames = frames i old }
  where
    long : (i : ℕ) (bs : List AudioBuffer) → length bs ≤ length (changed_at i change bs)
    long i [] = omega arith
    long zero (x ∷ bs) = omega arith
    long (suc i) (x ∷ bs) = let l = long i bs in omega arith

    frames : (i : ℕ) (bs : List AudioBuffer) (k : ℕ) → k < length bs
        → option_map_or (λ (x : AudioBuffer). x.shape.frames) (slice_get (changed_at i change bs) k) 0 ≡ option_map_or (λ (x : AudioBuffer). x.shape.frames) (slice_get bs k) 0
    frames i [] k l = absurd (omega arith)
    frames zero (x ∷ bs) zero l = same x
    frames zero (x ∷ bs) (suc k) l = refl
    frames (suc i) (x ∷ bs) zero l = refl
    frames (suc i) (x ∷ bs) (suc k) l = frames i bs k (omega arith)

keeps_all : (old : List AudioBuffer) → KeepsFrames old old
keeps_all old = record { long = omega arith; frames = λ i l. refl }

-- the buffer of a source is in the store
play_buffer : (store : List AudioBuffer) (plays : Option Plays) (p : Play) → IsPlay store plays p → IsBufferOf store p.buffer
play_buffer store None p is = absurd is
play_buffer store (Some played.Value) p is = rw is.buffer tt
play_buffer store (Some (played.Content rate)) p is = is.there

pub found_buffer : (w : World) → IsValid w → (i : ℕ) (p : Play) → slice_get w.scheds.items i ≡ Some p → IsBufferOf w.store p.buffer
found_buffer w valid i p is = play_buffer w.store (row (kind_of w p.id.0)).plays p (valid.scheds.kinds p (found_is_in w.scheds.items i p is))

-- and so is the one that it acquires
pub acquires_there : (store : List AudioBuffer) (e : SourceEdit) (p : Play) (b : BufId) → IsBufferOf store p.buffer → acquires e p ≡ Some b → b.0 < length store
acquires_there store (edit.Start when offset duration) p b there is = rw is at there
acquires_there store (edit.Stop when) p b there is = absurd cc
acquires_there store (edit.SetBuffer source) p b there is = absurd cc
acquires_there store (edit.SetLoop part) p b there is = absurd cc

-- ---- an edit of a source

-- the first source of a node is its only one
found_in : (w : World) → IsValid w → (p : Play) → IsIn p w.scheds.items → find_play w.scheds.items p.id.0 ≡ Some p
found_in w valid p is =
    let k = at_place w.scheds.items p is in
    let own : slice_index_or w.scheds.items k.0 p ≡ p = get_or_from_slice_get w.scheds.items k.0 p p k.2 in
    let test : ((slice_index_or w.scheds.items k.0 p).id.0 == p.id.0) ≡ true = rw own (grind (arith, nat_tests)) in
    ap (option_and_then (slice_get w.scheds.items)) (play_position w valid p.id.0 k.0 p k.1 test) ∙ k.2

pub edited_id : (frames now : ℕ) (e : SourceEdit) (p : Play) → (play_edited frames now e p).id ≡ p.id
edited_id frames now (edit.Start when offset duration) p = refl
edited_id frames now (edit.Stop when) p = refl
edited_id frames now (edit.SetBuffer source) p = refl
edited_id frames now (edit.SetLoop part) p = refl

stopped_content : (s : Schedule) (b : Bool) (stop : Option ℕ) → (if b then s else record s { stop = stop }).content ≡ s.content
stopped_content s true stop = refl
stopped_content s false stop = refl

stopped_start : (s : Schedule) (b : Bool) (stop : Option ℕ) → (if b then s else record s { stop = stop }).start ≡ s.start
stopped_start s true stop = refl
stopped_start s false stop = refl

-- a source that was started gets no buffer, and one without a content neither a buffer nor a loop
not_begun : (begun source was : Bool) (rest : Option Exc)
    → (if source then (if was then Some InvalidState else if begun then Some (NotSupported (Some LateBuffer)) else rest) else Some WrongType) ≡ None → begun ≡ false
not_begun false source was rest is = refl
not_begun true true true rest is = absurd cc
not_begun true true false rest is = absurd cc
not_begun true false was rest is = absurd cc

no_source : (content : Option Content) (rest : Option Exc) → content ≡ None → (if is_some content then rest else Some WrongType) ≡ None → ⊥
no_source None rest is refused = absurd cc
no_source (Some content) rest is refused = absurd cc

none_begun : (start : Option ℕ) → is_some start ≡ false → IsSome start → ⊥
none_begun None is some = let never : false ≡ true = some in absurd cc
none_begun (Some n) is some = absurd cc

module _ (w : World) (store : List AudioBuffer) (keeps : KeepsFrames w.store store) (now : ℕ) where
  constant_stays : (e : SourceEdit) (frames : ℕ) (p : Play) → source_refusal w e (Some p) ≡ None → IsConstantPlay p → IsConstantPlay (play_edited frames now e p)
  constant_stays (edit.Start when offset duration) frames p fine is = record { content = ap (λ c. begun c offset duration frames) is.content; buffer = is.buffer }
  constant_stays (edit.Stop when) frames p fine is = record { content = stopped_content p.sched p.sched.ended _ ∙ is.content; buffer = is.buffer }
  constant_stays (edit.SetBuffer source) frames p fine is = absurd (no_source p.sched.content _ is.content fine)
  constant_stays (edit.SetLoop part) frames p fine is = absurd (no_source p.sched.content _ is.content fine)

  source_stays : (e : SourceEdit) (rate : ℕ) (p : Play) → IsNamedBy w.store e → source_refusal w e (Some p) ≡ None → IsBufferOf w.store p.buffer → IsBufferPlay store rate p
      → IsBufferPlay store rate (play_edited (frames_in w.store p.buffer) now e p)
  source_stays (edit.Start when offset duration) rate p named fine old is = record {
    content = record is.content { offset = unsigned_abs offset; duration = absolute duration; length = frames_in w.store p.buffer };
    plays = ap (λ c. begun c offset duration (frames_in w.store p.buffer)) is.plays;
    rate_of = is.rate_of;
    there = is.there;
    length_of = λ begun. sym (same_frames w.store store keeps p.buffer old);
  }
  source_stays (edit.Stop when) rate p named fine old is = record {
    content = is.content;
    plays = stopped_content p.sched p.sched.ended _ ∙ is.plays;
    rate_of = is.rate_of;
    there = is.there;
    length_of = λ begun. is.length_of (subst IsSome (stopped_start p.sched p.sched.ended _) begun);
  }
  source_stays (edit.SetBuffer source) rate p named fine old is = record {
    content = is.content;
    plays = is.plays;
    rate_of = is.rate_of;
    there = there_too w.store store keeps source named;
    length_of = λ begun. absurd (none_begun p.sched.start (not_begun (is_some p.sched.start) (is_some p.sched.content) (is_some source && p.was_set) _ fine) begun);
  }
  source_stays (edit.SetLoop part) rate p named fine old is = record {
    content = record is.content { points = with_part part is.content.points };
    plays = ap (option_map (λ (c : Content). record c { points = with_part part c.points })) is.plays;
    rate_of = is.rate_of;
    there = is.there;
    length_of = is.length_of;
  }

  edit_stays : (e : SourceEdit) (plays : Option Plays) (p : Play) → IsNamedBy w.store e → source_refusal w e (Some p) ≡ None → IsPlay w.store plays p → IsPlay store plays p
      → IsPlay store plays (play_edited (frames_in w.store p.buffer) now e p)
  edit_stays e None p named fine old is = absurd is
  edit_stays e (Some played.Value) p named fine old is = constant_stays e (frames_in w.store p.buffer) p fine is
  edit_stays e (Some (played.Content rate)) p named fine old is = source_stays e rate p named fine old.there is

pub frozen_keeps : (store : List AudioBuffer) (source : Option BufId) → KeepsFrames store (frozen_in store source)
frozen_keeps store None = keeps_all store
frozen_keeps store (Some b) = keeps_changed store b.0 frozen (λ x. refl)

pub frozen_are : (store : List AudioBuffer) (source : Option BufId) → AreBuffers store → AreBuffers (frozen_in store source)
frozen_are store None are = are
frozen_are store (Some b) are = are_buffers_changed b.0 frozen store (λ x is. keeps_frozen x) are

pub acquired_keeps : (store : List AudioBuffer) (e : SourceEdit) (p : Option Play) → KeepsFrames store (acquired store e p)
acquired_keeps store e (Some p) = frozen_keeps store (acquires e p)
acquired_keeps store e None = keeps_all store

acquired_are : (store : List AudioBuffer) (e : SourceEdit) (p : Option Play) → AreBuffers store → AreBuffers (acquired store e p)
acquired_are store e (Some p) are = frozen_are store (acquires e p) are
acquired_are store e None are = are

pub source_edited_valid : (w : World) (now node : ℕ) (e : SourceEdit) → IsNamedBy w.store e → source_refusal w e (find_play w.scheds.items node) ≡ None → IsValid w → IsValid (source_edited w now node e)
source_edited_valid w now node e named fine valid =
    let store : List AudioBuffer = acquired w.store e (find_play w.scheds.items node) in
    let keeps : KeepsFrames w.store store = acquired_keeps w.store e (find_play w.scheds.items node) in
    with_play_valid (with_store w store) node (λ p. play_edited (frames_in w.store p.buffer) now e p) (λ p. edited_id (frames_in w.store p.buffer) now e p)
    (λ p is at own.
    let fine_here : source_refusal w e (Some p) ≡ None = subst (λ (o : Option Play). source_refusal w e o ≡ None) (ap (find_play w.scheds.items) (sym at) ∙ found_in w valid p is) fine in
    edit_stays w store keeps now e (row (kind_of w p.id.0)).plays p named fine_here (valid.scheds.kinds p is) own)
    (with_store_valid w store keeps (acquired_are w.store e (find_play w.scheds.items node) valid.store) valid)
