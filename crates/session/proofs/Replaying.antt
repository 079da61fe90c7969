-- What a session comes to once its main list ran.
use Rattle.std.proofs.Common.{ℕ, ◌≡◌, ◌≤◌, ◌/◌, List, [], length, Bool, true, false, ◌&&◌, Option, Some, None, inr, refl, sym, ◌∙◌, ap, subst, arith}
use Rattle.std.specs.Prelude.{is_some, IsSome, IsTrue, OnOk, if◌then◌else◌, Result, Ok, Err}
use Rattle.io_edge.specs.Paths.{Paths, SamePaths}
use Rattle.wa_base.specs.Contexts.{is_supported, IsSupported, quantum_of}
use Rattle.wa_base.specs.declared.contexts.State.{State}
use Rattle.wa_base.specs.declared.contexts.State.TheVariants as state
use Rattle.ctx_state.specs.Context.{IsInState, is_closed}
use Rattle.wa_base.specs.declared.contexts.ContextSpec.{ContextSpec}
use Rattle.wa_base.specs.declared.exceptions.Exc.TheVariants.{NotSupported}
use Rattle.meaning.specs.declared.world.World.{World}
use Rattle.script_ast.specs.declared.call_list.Call.{Call}
use Rattle.script_ast.specs.declared.call_list.Script.{Script}
use Rattle.transcript.specs.declared.lines.EndWord.TheVariants.{Completed, Stalled, Idle, Refused}
use Rattle.session.specs.declared.replay.Outcome.{Outcome}
use Rattle.session.specs.declared.stop.Stop.{Stop}
use Rattle.session.specs.Folders.{Folder, IsFolderOf, AgreeBetween}
use Rattle.session.specs.Rendering.{IsOutcomeOf, completes, rendering_of}
use Rattle.session.specs.Session.{Told, Played, first_told, main_list, rendered, replayed, quanta_left, session_of, finished, turns, end_of, lines_at_end, TurnsDecode, Decodes}
use Rattle.session.specs.View.{SessionView, IsFirst, IsPlayed, IsReplayed, ComesToDecode, Stands}
use Rattle.session.proofs.Finishing.{outcome_is}
use Rattle.session.specs.Observing.{Saw}
use Rattle.session.specs.Tapes.{HasTape}
use Rattle.session.proofs.Tapes.{regular_front}
use Rattle.session.proofs.Folders.{spliced, spliced_before, spliced_from, splice_of}

-- by whether rendering was started
abbrev by_start : Folder → List Call → Told → Bool → Played
by_start folder calls now started = if started then turns (quanta_left now.machine) folder calls now [] else finished now []

is_by_start : (folder : Folder) (calls : List Call) (first now : Told) (started : Bool) → now ≡ main_list folder calls first → is_some now.machine.context.started ≡ started
    → replayed folder calls first ≡ by_start folder calls now started
is_by_start folder calls first now started is test = ap (rendered folder calls) (sym is) ∙ ap (by_start folder calls now) test

-- a closed context was started
pub closed_begun : (s : State) (started : Option ℕ) (time frames : ℕ) → IsInState s started time frames → is_closed s ≡ true → IsSome started
closed_begun state.Suspended started time frames is closed = absurd cc
closed_begun state.Running started time frames is closed = absurd cc
closed_begun state.Closed started time frames is closed = is.0

-- what was not started ends after its main list
pub not_started : (folder : Folder) (calls : List Call) (first now : Told) → now ≡ main_list folder calls first → is_some now.machine.context.started ≡ false → replayed folder calls first ≡ finished now []
not_started folder calls first now is none = is_by_start folder calls first now false is none

module _ (tells : Bool) (paths : Paths) (calls : List Call) (first now : SessionView) (one : Folder) (of_one : IsFolderOf tells paths one)
    (main : (other : Folder) → AgreeBetween (length first.told.lines) (length now.told.lines) one other → now.told ≡ main_list other calls first.told) (begun : is_some now.told.machine.context.started ≡ true) where
  -- the folder of the main list and that of what came after it make the folder of the session
  abbrev both : Folder → Folder
  both two = spliced (length now.told.lines) one two

  main_of : (two : Folder) → now.told ≡ main_list (both two) calls first.told
  main_of two = main (both two) (λ n from early. spliced_before (length now.told.lines) one two n early)

  pub was_started : (shown : List World → Type 0) (last : SessionView) → IsPlayed shown tells paths calls now last → last.told.machine.world.spec ≡ first.told.machine.world.spec → IsSupported last.told.machine.world.spec → IsSome last.told.machine.context.started
      → IsReplayed shown tells paths calls first last
  was_started shown last played spec supported started = record {
    folder = both played.folder;
    of = splice_of tells paths (length now.told.lines) one played.folder of_one played.of;
    tape = played.tape;
    stands = played.stands;
    seen = played.seen;
    played =
        is_by_start (both played.folder) calls first.told now.told true (main_of played.folder) begun
        ∙ played.played (both played.folder) (λ n from early. spliced_from (length now.told.lines) one played.folder n from);
    begun = λ closed. started;
    spec = spec;
    supported = supported;
  }

  pub decodes_later : (last : SessionView) → ComesToDecode tells paths calls now last → (folder : Folder) × IsFolderOf tells paths folder × Decodes folder calls first.told
  decodes_later last comes =
      let folder : Folder = both comes.folder in
      let is = main_of comes.folder in (
        folder,
        splice_of tells paths (length now.told.lines) one comes.folder of_one comes.of,
        inr (
          subst (λ t. IsSome t.machine.context.started) is begun,
          subst (λ t. TurnsDecode (quanta_left t.machine) folder calls t) is (comes.decodes folder (λ n from early. spliced_from (length now.told.lines) one comes.folder n from)),
        ),
      )

-- the same of another name for the store's paths
pub played_of : (shown : List World → Type 0) (tells told : Bool) (paths now : Paths) (calls : List Call) (a b : SessionView) → told ≡ tells → (IsTrue tells → SamePaths paths now) → IsPlayed shown told now calls a b → IsPlayed shown tells paths calls a b
played_of shown tells told paths now calls a b same_tells same_paths is = record {
  folder = is.folder;
  of = λ n tell q. is.of n (subst IsTrue (sym same_tells) tell) q ∙ same_paths tell q;
  tape = is.tape;
  stands = is.stands;
  seen = is.seen;
  played = is.played;
}

pub comes_of : (tells told : Bool) (paths now : Paths) (calls : List Call) (a b : SessionView) → told ≡ tells → (IsTrue tells → SamePaths paths now) → ComesToDecode told now calls a b → ComesToDecode tells paths calls a b
comes_of tells told paths now calls a b same_tells same_paths is = record {
  folder = is.folder;
  of = λ n tell q. is.of n (subst IsTrue (sym same_tells) tell) q ∙ same_paths tell q;
  decodes = is.decodes;
}

pub both_ok : (P Q R : Type 0) (r : Result (Unit {0}) Stop) → (P → Q → R) → OnOk r P → OnOk r Q → OnOk r R
both_ok P Q R (Ok v) f p q = f p q
both_ok P Q R (Err e) f p q = tt

-- what is handed over of a session that was replayed
pub replayed_outcome : (tells : Bool) (paths : Paths) (script : Script) (audio : Bool) (first last : SessionView) (outcome : Outcome) (shown : List World → Type 0) (is : IsReplayed shown tells paths script.calls first last) → is_supported script.context ≡ true
    → IsFirst script.context audio first → last.audio ≡ first.audio → outcome.lines.items ≡ lines_at_end last.told → outcome.end ≡ end_of last.told.machine.context
    → outcome.quanta ≡ last.told.machine.context.time / quantum_of last.told.machine.world.spec
    → outcome.rendered ≡ (if last.audio && is_closed last.told.machine.context.state then Some (record { spec = last.told.machine.world.spec; samples = last.samples }) else None)
    → IsOutcomeOf audio script.context (session_of is.folder script) outcome
unfolding session_of
replayed_outcome tells paths script audio first last outcome shown is supported fresh heard lines end quanta rendered =
    let here = outcome_is last is.tape outcome is.supported is.stands is.begun lines end quanta rendered in
    let spec : last.told.machine.world.spec ≡ script.context = is.spec ∙ ap (λ t. t.machine.world.spec) fresh.told in
    let told : finished last.told is.tape ≡ replayed is.folder script.calls (first_told script.context) = sym is.played ∙ ap (replayed is.folder script.calls) fresh.told in
    rw supported (subst (λ p. IsOutcomeOf audio script.context p outcome) told (subst (λ (s : ContextSpec). IsOutcomeOf audio s (finished last.told is.tape) outcome) spec
    (subst (λ a. IsOutcomeOf a last.told.machine.world.spec (finished last.told is.tape) outcome) (heard ∙ fresh.heard) here)))

pub not_off : (b : Bool) → (b ≡ false → ⊥) → b ≡ true
not_off true on = refl
not_off false on = absurd (on refl)

-- what is handed over of a context that was refused
pub refused_outcome : (folder : Folder) (script : Script) (audio : Bool) (outcome : Outcome) → is_supported script.context ≡ false → outcome.lines.items ≡ [] → outcome.end ≡ Refused (NotSupported None) → outcome.quanta ≡ 0 → outcome.rendered ≡ None
    → IsOutcomeOf audio script.context (session_of folder script) outcome
unfolding session_of rendering_of
refused_outcome folder script audio outcome unsupported lines end quanta nothing =
    rw unsupported record {
      lines = lines;
      end = end;
      quanta = quanta;
      rendered = nothing ∙ sym (none_rendered audio script.context);
      supported = rw nothing tt;
    }
  where
    none_rendered : (a : Bool) (spec : ContextSpec) → rendering_of a spec (record { lines = []; end = Refused (NotSupported None); tape = [] }) ≡ None
    none_rendered true spec = refl
    none_rendered false spec = refl

-- what was shown is the tape of the session
pub replayed_shown : (tells : Bool) (paths : Paths) (script : Script) (audio : Bool) (first last : SessionView) (shown : List World → Type 0) (is : IsReplayed shown tells paths script.calls first last) → is_supported script.context ≡ true
    → IsFirst script.context audio first → shown (session_of is.folder script).tape
unfolding session_of
replayed_shown tells paths script audio first last shown is supported fresh =
    let told : finished last.told is.tape ≡ replayed is.folder script.calls (first_told script.context) = sym is.played ∙ ap (replayed is.folder script.calls) fresh.told in
    rw supported (subst (λ (p : Played). shown p.tape) told is.seen)

-- and nothing of a context that was refused
pub refused_shown : (folder : Folder) (script : Script) (saw : List World → Type 0) → is_supported script.context ≡ false → Saw saw [] → Saw saw (session_of folder script).tape
unfolding session_of
refused_shown folder script saw unsupported unseen = rw unsupported unseen

-- ---- the tape

-- a context that is at its end has no frames left
none_left : (s : State) (started : Option ℕ) (time frames : ℕ) → IsInState s started time frames → completes (if is_closed s then Completed else if is_some started then Stalled time else Idle) ≡ true → frames ≤ time
none_left state.Closed started time frames is closed = is.1
none_left state.Suspended (Some ordinal) time frames is closed = absurd cc
none_left state.Suspended None time frames is closed = absurd cc
none_left state.Running (Some ordinal) time frames is closed = absurd cc
none_left state.Running None time frames is closed = absurd cc

tape_is : (view : SessionView) (tape : List World) → IsSupported view.told.machine.world.spec → Stands view tape → IsInState view.told.machine.context.state view.told.machine.context.started view.told.machine.context.time view.told.machine.world.spec.length → view.told.machine.context.time ≤ 33555456
    → HasTape view.told.machine.world.spec (finished view.told tape)
tape_is view tape supported stands state short = record {
  regular = regular_front (quantum_of view.told.machine.world.spec) tape view.told.machine.world stands.regular;
  short = let time = stands.time in omega (arith, time, short);
  whole = λ ended. let time = stands.time in let none = none_left view.told.machine.context.state view.told.machine.context.started view.told.machine.context.time view.told.machine.world.spec.length state ended in omega (arith, time, none);
  supported = λ ended. supported;
}

-- the tape of a session that was replayed
pub replayed_tape : (tells : Bool) (paths : Paths) (script : Script) (audio : Bool) (first last : SessionView) (shown : List World → Type 0) (is : IsReplayed shown tells paths script.calls first last) → is_supported script.context ≡ true
    → IsFirst script.context audio first → IsInState last.told.machine.context.state last.told.machine.context.started last.told.machine.context.time last.told.machine.world.spec.length → last.told.machine.context.time ≤ 33555456
    → HasTape script.context (session_of is.folder script)
unfolding session_of
replayed_tape tells paths script audio first last shown is supported fresh state short =
    let spec : last.told.machine.world.spec ≡ script.context = is.spec ∙ ap (λ t. t.machine.world.spec) fresh.told in
    let told : finished last.told is.tape ≡ replayed is.folder script.calls (first_told script.context) = sym is.played ∙ ap (replayed is.folder script.calls) fresh.told in
    rw supported (subst (HasTape script.context) told (subst (λ (s : ContextSpec). HasTape s (finished last.told is.tape)) spec (tape_is last is.tape is.supported is.stands state short)))

-- and that of a context that was refused
pub refused_tape : (folder : Folder) (script : Script) → is_supported script.context ≡ false → HasTape script.context (session_of folder script)
unfolding session_of
refused_tape folder script unsupported = rw unsupported record {
  regular = record { valid = λ k d l. absurd (omega arith); spec = λ j l. absurd (omega arith); capacity = λ j i l. absurd (omega arith); stays = λ j i l below. absurd (omega arith); born = λ j i l is. absurd (omega arith) };
  short = omega arith;
  whole = λ ended. absurd cc;
  supported = λ ended. absurd cc;
}
