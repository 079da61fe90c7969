-- A session that goes on turn by turn.
use Rattle.std.proofs.Common.{◌≡◌, ◌<◌, ◌≤◌, ◌+◌, ◌∷◌, ◌++◌, [], List, ℕ, suc, length, Bool, true, false, refl, sym, ap, ◌∙◌, subst, arith}
use Rattle.std.specs.Prelude.{IsTrue, IsSome, map}
use Rattle.std.proofs.lemmas.List.{map-append}
use Rattle.io_edge.specs.Paths.{Paths, SamePaths}
use Rattle.wa_base.specs.Contexts.{quantum_of, IsQuantumSize, IsSupported}
use Rattle.wa_base.specs.declared.contexts.ContextSpec.{ContextSpec}
use Rattle.wa_base.specs.declared.contexts.State.{State}
use Rattle.wa_base.specs.declared.contexts.State.TheVariants as state
use Rattle.wa_base.specs.declared.contexts.State.TheVariants.{Running}
use Rattle.script_ast.specs.declared.call_list.Call.{Call}
use Rattle.ctx_state.specs.Context.{turn_of}
use Rattle.ctx_state.specs.declared.context.Turn.TheVariants.{Went, Due, Done}
use Rattle.meaning.specs.declared.world.World.{World}
use Rattle.meaning.specs.World.{sounding}
use Rattle.session.specs.Folders.{Folder, IsFolderOf, AgreeBetween}
use Rattle.session.specs.Session.{after_turn, after_calls, after_list, held_by, is_running, quanta_left, finished, turns, HasDecode, TurnsDecode}
use Rattle.control_side.specs.Step.{KeepsTime}
use Rattle.control_side.specs.Turns.{IsTurned}
use Rattle.session.specs.View.{SessionView, Stands, IsPlayed, ComesToDecode, turns_of}
use Rattle.session.specs.Observing.{Saw}
use Rattle.session.proofs.Showing.{IsAgain, none_again, again_after}
use Rattle.session.proofs.Folders.{spliced, spliced_before, spliced_from, splice_of}
use Rattle.control_side.proofs.Stepping.{turned_started}
use Rattle.session.proofs.Quanta.{one_left, more_left, as_many_left, turns_went, decode_went, turns_due, turns_stalled, decode_due, decode_later, turns_done, decode_done, longer_after}

-- how far a session went on: what is left of it, over what a folder held so far, is what there was to come
pub record IsOnItsWay (shown : List World → Type 0) (again : Bool) (tells : Bool) (paths : Paths) (calls : List Call) (start now : SessionView) : Type 0 where
  pub running : now.told.machine.context.state ≡ Running
  pub begun : IsSome now.told.machine.context.started
  pub folder : Folder
  pub of : IsFolderOf tells paths folder
  pub tape : List World
  pub stands : Stands now tape
  pub seen : shown tape
  pub left : (other : Folder) → AgreeBetween (length start.told.lines) (length now.told.lines) folder other → turns (quanta_left now.told.machine) other calls now.told tape ≡ turns_of other start calls
  pub decodes : (other : Folder) → AgreeBetween (length start.told.lines) (length now.told.lines) folder other → TurnsDecode (quanta_left now.told.machine) other calls now.told
      → TurnsDecode (quanta_left start.told.machine) other calls start.told
  pub longer : length start.told.lines ≤ length now.told.lines
  pub audio : now.audio ≡ start.audio
  pub spec : now.told.machine.world.spec ≡ start.told.machine.world.spec
  pub short : now.told.machine.context.time ≤ 33555456
  pub last : IsAgain again tape now.told.machine.world

pub at_start : (shown : List World → Type 0) (tells : Bool) (paths : Paths) (calls : List Call) (start : SessionView) → start.told.machine.context.state ≡ Running → IsSome start.told.machine.context.started → Stands start [] → shown []
    → IsOnItsWay shown false tells paths calls start start
at_start shown tells paths calls start running begun stands seen = record {
  running = running;
  begun = begun;
  folder = λ n. paths;
  of = λ n told q. refl;
  tape = [];
  stands = stands;
  seen = seen;
  left = λ other agree. refl;
  decodes = λ other agree later. later;
  longer = omega arith;
  audio = refl;
  spec = refl;
  short = let time = stands.time in omega (arith, time);
  last = none_again [] start.told.machine.world;
}

-- a world that sounds as the machine's is shown
pub shown_more : (now next : List World → Type 0) (w told : World) → sounding w ≡ sounding told → ((worlds : List World) → now worlds → next (worlds ++ sounding w ∷ [])) → (tape : List World) → Saw now tape → Saw next (tape ++ told ∷ [])
shown_more now next w told same shows tape seen =
    subst next (ap (λ (x : World). map sounding tape ++ x ∷ []) same ∙ sym (map-append sounding tape (told ∷ []))) (shows (map sounding tape) seen)

-- what a turn leaves
pub record Advances (old new : SessionView) : Type 0 where
  pub told : new.told ≡ after_turn old.told
  pub left : old.told.machine.context.time < old.told.machine.world.spec.length
  pub time : new.told.machine.context.time ≡ old.told.machine.context.time + quantum_of old.told.machine.world.spec
  pub size : IsQuantumSize (quantum_of old.told.machine.world.spec)
  pub audio : new.audio ≡ old.audio
  pub stands : (tape : List World) → Stands old tape → Stands new (tape ++ old.told.machine.world ∷ [])

-- what a list of calls leaves, over a folder of the store
pub record Lists (tells : Bool) (paths : Paths) (list : List Call) (old new : SessionView) : Type 0 where
  pub folder : Folder
  pub of : IsFolderOf tells paths folder
  pub told : (other : Folder) → AgreeBetween (length old.told.lines) (length new.told.lines) folder other → new.told ≡ after_calls other old.told list
  pub longer : length old.told.lines ≤ length new.told.lines
  pub audio : new.audio ≡ old.audio
  pub spec : new.told.machine.world.spec ≡ old.told.machine.world.spec
  pub time : new.told.machine.context.time ≡ old.told.machine.context.time
  pub started : IsSome old.told.machine.context.started → IsSome new.told.machine.context.started
  pub stands : (tape : List World) → Stands old tape → Stands new tape

pub lists_of : (tells told : Bool) (paths now : Paths) (list : List Call) (old new : SessionView) → told ≡ tells → (IsTrue tells → SamePaths paths now) → (folder : Folder) → IsFolderOf told now folder
    → ((other : Folder) → AgreeBetween (length old.told.lines) (length new.told.lines) folder other → new.told ≡ after_calls other old.told list)
    → length old.told.lines ≤ length new.told.lines → new.audio ≡ old.audio → KeepsTime old.told.machine new.told.machine → (IsSome old.told.machine.context.started → IsSome new.told.machine.context.started)
    → ((tape : List World) → Stands old tape → Stands new tape) → Lists tells paths list old new
lists_of tells told paths now list old new same_tells same_paths folder of comes longer audio kept started stands = record {
  folder = folder;
  of = λ n tell q. of n (subst IsTrue (sym same_tells) tell) q ∙ same_paths tell q;
  told = comes;
  longer = longer;
  audio = audio;
  spec = kept.spec;
  time = kept.now;
  started = started;
  stands = stands;
}

running_is : (s : State) → is_running s ≡ true → s ≡ Running
running_is state.Suspended is = absurd cc
running_is Running is = refl
running_is state.Closed is = absurd cc

module _ (before shown : List World → Type 0) (again : Bool) (tells : Bool) (paths : Paths) (calls : List Call) (start now next : SessionView) (way : IsOnItsWay before again tells paths calls start now) (turn : Advances now next)
    (shows : (tape : List World) → before tape → shown (tape ++ now.told.machine.world ∷ [])) where
  some : 0 < quantum_of now.told.machine.world.spec
  some = let low = turn.size.low in omega (arith, low)

  pub begun_next : IsSome next.told.machine.context.started
  begun_next = subst IsSome (sym (ap (λ t. t.machine.context.started) turn.told ∙ turned_started now.told.machine.context)) way.begun

  spec_next : next.told.machine.world.spec ≡ start.told.machine.world.spec
  spec_next = ap (λ t. t.machine.world.spec) turn.told ∙ way.spec

  -- before the end of a context there are not too many frames
  few : IsSupported start.told.machine.world.spec → next.told.machine.context.time < next.told.machine.world.spec.length → next.told.machine.context.time ≤ 33555456
  few supported left = let most = supported.length_high in let long = ap (λ (s : ContextSpec). s.length) spec_next in omega (arith, left, most, long)

  -- rendering goes on
  pub goes_on : (same : Bool) → (IsTrue same → length next.told.lines ≡ length now.told.lines) → IsSupported start.told.machine.world.spec → turn_of now.told.machine.context ≡ Went → IsTurned Went now.told.machine next.told.machine
      → IsOnItsWay shown same tells paths calls start next
  goes_on same quiet supported went turned =
      let long = longer_after now.told next.told turn.told in
      let more = more_left now.told next.told some turn.told turn.time turned.1 in
      let early : (other : Folder) → AgreeBetween (length start.told.lines) (length next.told.lines) way.folder other → AgreeBetween (length start.told.lines) (length now.told.lines) way.folder other =
      λ other agree n from before. agree n from (omega (arith, long)) in
      record {
        running = turned.0;
        begun = begun_next;
        folder = way.folder;
        of = way.of;
        tape = way.tape ++ now.told.machine.world ∷ [];
        stands = turn.stands way.tape way.stands;
        seen = shows way.tape way.seen;
        left = λ other agree.
            ap (λ t. turns (quanta_left next.told.machine) other calls t (way.tape ++ now.told.machine.world ∷ [])) turn.told
            ∙ sym (turns_went other calls now.told way.tape (quanta_left next.told.machine) went more)
            ∙ way.left other (early other agree);
        decodes = λ other agree later.
            way.decodes other (early other agree) (decode_went other calls now.told way.tape (quanta_left next.told.machine) went more (subst (λ t. TurnsDecode (quanta_left next.told.machine) other calls t) turn.told later));
        longer = omega (arith, long, way.longer);
        audio = turn.audio ∙ way.audio;
        spec = spec_next;
        short = few supported turned.1;
        last = again_after same way.tape now.told next.told quiet turn.told went;
      }

  module _ (ordinal : ℕ) (last : SessionView) (list : Lists tells paths (held_by ordinal calls) next last) where
    -- the folder of the turns so far, and that of the list
    abbrev joined : Folder
    joined = spliced (length next.told.lines) way.folder list.folder

    joined_of : IsFolderOf tells paths joined
    joined_of = splice_of tells paths (length next.told.lines) way.folder list.folder way.of list.of

    long : length now.told.lines ≤ length next.told.lines
    long = longer_after now.told next.told turn.told

    early : (other : Folder) → AgreeBetween (length start.told.lines) (length last.told.lines) joined other → AgreeBetween (length start.told.lines) (length now.told.lines) way.folder other
    early other agree n from before =
        let more = list.longer in
        agree n from (omega (arith, long)) ∙ spliced_before (length next.told.lines) way.folder list.folder n (omega (arith, long))

    -- after the list
    after : (other : Folder) → AgreeBetween (length start.told.lines) (length last.told.lines) joined other → last.told ≡ after_list other calls (after_turn now.told) ordinal
    after other agree =
        list.told other (λ n from before. let so_far = way.longer in agree n (omega (arith, from, long)) before ∙ spliced_from (length next.told.lines) way.folder list.folder n from)
        ∙ ap (λ t. after_calls other t (held_by ordinal calls)) turn.told

    -- after the turn and its list, at the end
    pub stops : (other : Folder) → AgreeBetween (length start.told.lines) (length last.told.lines) joined other
        → turns (quanta_left now.told.machine) other calls now.told way.tape ≡ finished (after_list other calls (after_turn now.told) ordinal) (way.tape ++ now.told.machine.world ∷ [])
        → turns_of other start calls ≡ finished last.told (way.tape ++ now.told.machine.world ∷ [])
    stops other agree ends = sym (way.left other (early other agree)) ∙ ends ∙ ap (λ t. finished t (way.tape ++ now.told.machine.world ∷ [])) (sym (after other agree))

    played : ((other : Folder) → AgreeBetween (length start.told.lines) (length last.told.lines) joined other
        → turns (quanta_left now.told.machine) other calls now.told way.tape ≡ finished (after_list other calls (after_turn now.told) ordinal) (way.tape ++ now.told.machine.world ∷ [])) → IsPlayed shown tells paths calls start last
    played ends = record {
      folder = joined;
      of = joined_of;
      tape = way.tape ++ now.told.machine.world ∷ [];
      stands = list.stands _ (turn.stands way.tape way.stands);
      seen = shows way.tape way.seen;
      played = λ other agree. stops other agree (ends other agree);
    }

    pub was_started : IsSome last.told.machine.context.started
    was_started = list.started begun_next

    -- the length is reached
    pub ends_closed : turn_of now.told.machine.context ≡ Done ordinal → IsTurned (Done ordinal) now.told.machine next.told.machine → IsPlayed shown tells paths calls start last
    ends_closed done turned = played (λ other agree. turns_done other calls now.told way.tape ordinal done (one_left now.told next.told some turn.left turn.time turned.1))

    -- a suspension is due
    module _ (due : turn_of now.told.machine.context ≡ Due ordinal) (turned : next.told.machine.context.time < next.told.machine.world.spec.length) where
      more : quanta_left now.told.machine ≡ suc (quanta_left last.told.machine)
      more = more_left now.told next.told some turn.told turn.time turned ∙ ap suc (sym (as_many_left next.told.machine last.told.machine list.spec list.time))

      state_is : (other : Folder) → AgreeBetween (length start.told.lines) (length last.told.lines) joined other → (b : Bool) → is_running last.told.machine.context.state ≡ b
          → is_running (after_list other calls (after_turn now.told) ordinal).machine.context.state ≡ b
      state_is other agree b is = ap (λ t. is_running t.machine.context.state) (sym (after other agree)) ∙ is

      pub ends_stalled : is_running last.told.machine.context.state ≡ false → IsPlayed shown tells paths calls start last
      ends_stalled waits = played (λ other agree. turns_stalled other calls now.told way.tape (quanta_left last.told.machine) ordinal due more (state_is other agree false waits))

      pub is_resumed : IsSupported start.told.machine.world.spec → is_running last.told.machine.context.state ≡ true → IsOnItsWay shown false tells paths calls start last
      is_resumed supported runs =
          record {
            running = running_is last.told.machine.context.state runs;
            begun = list.started begun_next;
            folder = joined;
            of = joined_of;
            tape = way.tape ++ now.told.machine.world ∷ [];
            stands = list.stands _ (turn.stands way.tape way.stands);
            seen = shows way.tape way.seen;
            left = λ other agree.
                ap (λ t. turns (quanta_left last.told.machine) other calls t (way.tape ++ now.told.machine.world ∷ [])) (after other agree)
                ∙ sym (turns_due other calls now.told way.tape (quanta_left last.told.machine) ordinal due more (state_is other agree true runs))
                ∙ way.left other (early other agree);
            decodes = λ other agree later.
                way.decodes other (early other agree)
                (decode_later other calls now.told way.tape (quanta_left last.told.machine) ordinal due more (state_is other agree true runs) (subst (λ t. TurnsDecode (quanta_left last.told.machine) other calls t) (after other agree) later));
            longer = let so_far = way.longer in let listed = list.longer in omega (arith, long, so_far, listed);
            audio = list.audio ∙ turn.audio ∙ way.audio;
            spec = list.spec ∙ spec_next;
            short = let time = list.time in let before = few supported turned in omega (arith, time, before);
            last = none_again (way.tape ++ now.told.machine.world ∷ []) last.told.machine.world;
          }

  -- a decodeAudioData in the list of a turn, however far that came
  module _ (ordinal : ℕ) (last : SessionView) (longer : length next.told.lines ≤ length last.told.lines) (has : HasDecode (held_by ordinal calls)) where
    reached : (other : Folder) → AgreeBetween (length start.told.lines) (length last.told.lines) way.folder other → AgreeBetween (length start.told.lines) (length now.told.lines) way.folder other
    reached other agree n from before = let more = longer_after now.told next.told turn.told in agree n from (omega (arith, longer, more))

    pub decodes_due : turn_of now.told.machine.context ≡ Due ordinal → next.told.machine.context.time < next.told.machine.world.spec.length → ComesToDecode tells paths calls start last
    decodes_due due turned = record {
      folder = way.folder;
      of = way.of;
      decodes = λ other agree. way.decodes other (reached other agree) (decode_due other calls now.told way.tape (quanta_left next.told.machine) ordinal due (more_left now.told next.told some turn.told turn.time turned) has);
    }

    pub decodes_done : turn_of now.told.machine.context ≡ Done ordinal → IsTurned (Done ordinal) now.told.machine next.told.machine → ComesToDecode tells paths calls start last
    decodes_done done turned = record {
      folder = way.folder;
      of = way.of;
      decodes = λ other agree. way.decodes other (reached other agree) (decode_done other calls now.told way.tape ordinal done (one_left now.told next.told some turn.left turn.time turned.1) has);
    }
