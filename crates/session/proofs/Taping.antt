-- What holds of the tape of a session, from its script alone.
use Rattle.std.proofs.Common.{ℕ, zero, suc, ◌≡◌, ◌≤◌, ◌<◌, ◌+◌, ◌*◌, Bool, true, false, List, [], ◌∷◌, ◌++◌, length, refl, sym, ◌∙◌, ap, subst, arith, length-append}
use Rattle.std.specs.Prelude.{is_some, if◌then◌else◌}
use Rattle.law_base.proofs.Rows.{next_quantum}
use Rattle.io_edge.specs.Paths.{Paths}
use Rattle.wa_base.specs.Contexts.{quantum_of, is_supported, IsSupported}
use Rattle.wa_base.specs.declared.contexts.ContextSpec.{ContextSpec}
use Rattle.script_ast.specs.Operations.{IsInRange}
use Rattle.script_ast.specs.WellFormed.{AreCallsAfter}
use Rattle.script_ast.specs.declared.call_list.Call.{Call}
use Rattle.script_ast.specs.declared.call_list.Script.{Script}
use Rattle.transcript.specs.declared.lines.EndWord.TheVariants.{Completed, Stalled, Idle}
use Rattle.ctx_state.specs.Context.{ContextView, is_closed, turn_of}
use Rattle.ctx_state.specs.declared.context.Turn.{Turn}
use Rattle.ctx_state.specs.declared.context.Turn.TheVariants.{Went, Due, Done}
use Rattle.meaning.specs.declared.world.World.{World}
use Rattle.meaning.specs.Changes.{Grows}
use Rattle.meaning.specs.Worlds.{IsRegular}
use Rattle.control_side.specs.Steady.{IsSteady}
use Rattle.control_side.proofs.Starting.{calls_time}
use Rattle.control_side.proofs.Stepping.{turned_time, due_suspends}
use Rattle.session.specs.Folders.{Folder}
use Rattle.session.specs.Rendering.{completes}
use Rattle.session.specs.Session.{Told, Played, after_call, after_calls, after_turn, after_list, held_by, main_list, first_told, quanta_left, is_running, finished, by_turn, turns, rendered, session_of}
use Rattle.session.specs.Tapes.{HasTape, TapeLaw}
use Rattle.session.proofs.Beginning.{is_in_ranges}
use Rattle.session.proofs.Keeping.{AreInRange, held_in_range, step_steady, step_leaves, turn_steady, first_steady, is_last, not_last, last_reaches, went_state}
use Rattle.session.proofs.Lasting.{calls_context, calls_open, calls_spec}
use Rattle.session.proofs.Replaying.{refused_tape}
use Rattle.session.proofs.Tapes.{regular_first, regular_grown, regular_after, regular_front}

-- ---- a session on its way

-- the worlds so far, and the one in force behind them
pub record IsTaped (told : Told) (tape : List World) : Type 0 where
  pub steady : IsSteady told.machine
  pub time : told.machine.context.time ≡ quantum_of told.machine.world.spec * length tape
  pub regular : IsRegular (quantum_of told.machine.world.spec) (tape ++ told.machine.world ∷ [])

pub first_taped : (spec : ContextSpec) → IsSupported spec → IsTaped (first_told spec) []
first_taped spec supported =
    let steady = first_steady spec supported in
    record { steady = steady; time = omega arith; regular = regular_first (quantum_of spec) spec steady.valid }

pub call_taped : (told : Told) (tape : List World) (held : Paths) (call : Call) → IsInRange call.op → IsTaped told tape → IsTaped (after_call told held call) tape
call_taped told tape held call in_range taped =
    let leaves = step_leaves told.machine taped.steady held call in_range in
    let new = (after_call told held call).machine in
    record {
      steady = step_steady told.machine taped.steady held call in_range;
      time = leaves.kept.now ∙ taped.time ∙ ap (λ (s : ContextSpec). quantum_of s * length tape) (sym leaves.kept.spec);
      regular = regular_grown tape told.machine.world new.world taped.regular (subst (λ n. Grows n told.machine.world new.world) taped.time leaves.grows);
    }

pub calls_taped : (folder : Folder) (calls : List Call) (told : Told) (tape : List World) → AreInRange calls → IsTaped told tape → IsTaped (after_calls folder told calls) tape
calls_taped folder [] told tape are taped = taped
calls_taped folder (call ∷ calls) told tape are taped =
    let held = folder (length told.lines) in
    calls_taped folder calls (after_call told held call) tape are.1 (call_taped told tape held call are.0 taped)

-- a turn puts the world in force onto the tape
pub turn_taped : (told : Told) (tape : List World) → told.machine.context.time < told.machine.world.spec.length → IsTaped told tape → IsTaped (after_turn told) (tape ++ told.machine.world ∷ [])
turn_taped told tape left taped =
    let m = told.machine in
    let q = quantum_of m.world.spec in
    let steady = turn_steady m taped.steady left in
    record {
      steady = steady;
      time =
          turned_time m.context
          ∙ ap (λ (s : ContextSpec). m.context.time + quantum_of s) taped.steady.spec
          ∙ ap (λ n. n + q) taped.time
          ∙ sym (next_quantum q (length tape))
          ∙ ap (λ n. q * n) (sym (length-append tape (m.world ∷ [])));
      regular = regular_after q tape m.world (after_turn told).machine.world taped.regular steady.valid refl refl;
    }

-- ---- the end

only_closed : (closed begun : Bool) (time : ℕ) → completes (if closed then Completed else if begun then Stalled time else Idle) ≡ true → closed ≡ true
only_closed true begun time is = refl
only_closed false true time is = absurd cc
only_closed false false time is = absurd cc

finished_taped : (told : Told) (tape : List World) (spec : ContextSpec) → told.machine.world.spec ≡ spec → (is_closed told.machine.context.state ≡ true → told.machine.world.spec.length ≤ told.machine.context.time) → IsTaped told tape
    → HasTape spec (finished told tape)
finished_taped told tape spec same ended taped = subst (λ (s : ContextSpec). HasTape s (finished told tape)) same (record {
  regular = regular_front (quantum_of told.machine.world.spec) tape told.machine.world taped.regular;
  short = let time = taped.time in let short = taped.steady.time in omega (arith, time, short);
  whole = λ completed.
      let time = taped.time in
      let none = ended (only_closed (is_closed told.machine.context.state) (is_some told.machine.context.started) told.machine.context.time completed) in
      omega (arith, time, none);
  supported = λ completed. taped.steady.valid.spec;
})

-- ---- turn by turn

module _ (folder : Folder) (calls : List Call) (are : AreCallsAfter 0 calls) (spec : ContextSpec) where
  -- a list of the script that runs
  pub list_taped : (told : Told) (tape : List World) (ordinal : ℕ) → IsTaped told tape → IsTaped (after_list folder calls told ordinal) tape
  list_taped told tape ordinal taped = calls_taped folder (held_by ordinal calls) told tape (held_in_range 0 ordinal calls are) taped

  list_spec : (told : Told) (ordinal : ℕ) → (after_list folder calls told ordinal).machine.world.spec ≡ told.machine.world.spec
  list_spec told ordinal = calls_spec folder (held_by ordinal calls) told

  list_time : (told : Told) (ordinal : ℕ) → (after_list folder calls told ordinal).machine.context.time ≡ told.machine.context.time
  list_time told ordinal = ap (λ (c : ContextView). c.time) (calls_context folder (held_by ordinal calls) told) ∙ calls_time (held_by ordinal calls) told.machine.context

  -- no list closes the context
  list_open : (told : Told) (ordinal : ℕ) → is_closed told.machine.context.state ≡ false → is_closed (after_list folder calls told ordinal).machine.context.state ≡ false
  list_open told ordinal stays = ap (λ (c : ContextView). is_closed c.state) (calls_context folder (held_by ordinal calls) told) ∙ calls_open (held_by ordinal calls) told.machine.context stays

  open_taped : (told : Told) (tape : List World) → told.machine.world.spec ≡ spec → is_closed told.machine.context.state ≡ false → IsTaped told tape → HasTape spec (finished told tape)
  open_taped told tape same stays taped = finished_taped told tape spec same (λ closed. absurd (let both = sym stays ∙ closed in cc)) taped

  -- so many turns of a session that is on its way, and has frames left where there are turns, leave a tape
  abbrev pub AreTaped : ℕ → Type 0
  AreTaped left =
      (told : Told) (tape : List World) → told.machine.world.spec ≡ spec → is_closed told.machine.context.state ≡ false → (0 < left → told.machine.context.time < told.machine.world.spec.length) → IsTaped told tape
      → HasTape spec (turns left folder calls told tape)

  by_test : {one two : Played} (b : Bool) → HasTape spec one → HasTape spec two → HasTape spec (if b then one else two)
  by_test true taped other = taped
  by_test false taped other = other

  one_turn : (left : ℕ) → AreTaped left → AreTaped (suc left)
  one_turn left later told tape same stays early taped = by_case (turn_of c) refl
    where
      c : ContextView
      c = told.machine.context

      longer : List World
      longer = tape ++ told.machine.world ∷ []

      now : Told
      now = after_turn told

      turned : IsTaped now longer
      turned = turn_taped told tape (early (omega arith)) taped

      listed : ℕ → Told
      listed ordinal = after_list folder calls now ordinal

      -- before the length
      left_now : (turn : Turn) → turn_of c ≡ turn → is_last turn ≡ false → now.machine.context.time < told.machine.world.spec.length
      left_now turn is other =
          let at = turned_time c in
          let below = not_last c turn is other in
          let frames : c.spec.length ≡ told.machine.world.spec.length = ap (λ (s : ContextSpec). s.length) taped.steady.spec in
          omega (arith, at, below, frames)

      went : turn_of c ≡ Went → HasTape spec (turns left folder calls now longer)
      went is = later now longer same (ap is_closed (went_state c is) ∙ stays) (λ some. left_now Went is refl) turned

      due : (ordinal : ℕ) → turn_of c ≡ Due ordinal → (b : Bool) → HasTape spec (if b then turns left folder calls (listed ordinal) longer else finished (listed ordinal) longer)
      due ordinal is b =
          let stays' = list_open now ordinal (ap is_closed (due_suspends c ordinal is)) in
          let taped' = list_taped now longer ordinal turned in
          let frames : (listed ordinal).machine.world.spec.length ≡ told.machine.world.spec.length = ap (λ (s : ContextSpec). s.length) (list_spec now ordinal) in
          let time = list_time now ordinal in
          let below = left_now (Due ordinal) is refl in
          by_test b
          (later (listed ordinal) longer (list_spec now ordinal ∙ same) stays' (λ some. omega (arith, frames, time, below)) taped')
          (open_taped (listed ordinal) longer (list_spec now ordinal ∙ same) stays' taped')

      done : (ordinal : ℕ) → turn_of c ≡ Done ordinal → HasTape spec (finished (listed ordinal) longer)
      done ordinal is =
          let frames : (listed ordinal).machine.world.spec.length ≡ told.machine.world.spec.length = ap (λ (s : ContextSpec). s.length) (list_spec now ordinal) in
          let of_context : c.spec.length ≡ told.machine.world.spec.length = ap (λ (s : ContextSpec). s.length) taped.steady.spec in
          let time = list_time now ordinal in
          let at = turned_time c in
          let reached = last_reaches c (Done ordinal) is refl in
          finished_taped (listed ordinal) longer spec (list_spec now ordinal ∙ same) (λ closed. omega (arith, frames, of_context, time, at, reached)) (list_taped now longer ordinal turned)

      by_case : (turn : Turn) → turn_of c ≡ turn → HasTape spec (
          by_turn turn (turns left folder calls now longer)
          (λ ordinal. if is_running (listed ordinal).machine.context.state then turns left folder calls (listed ordinal) longer else finished (listed ordinal) longer)
          (λ ordinal. finished (listed ordinal) longer)
          )
      by_case Went is = went is
      by_case (Due ordinal) is = due ordinal is (is_running (listed ordinal).machine.context.state)
      by_case (Done ordinal) is = done ordinal is

  pub turns_taped : (left : ℕ) → AreTaped left
  turns_taped zero told tape same stays early taped = open_taped told tape same stays taped
  turns_taped (suc left) told tape same stays early taped = one_turn left (turns_taped left) told tape same stays early taped

  -- whether rendering is started or not
  rendered_taped : (told : Told) → told.machine.world.spec ≡ spec → is_closed told.machine.context.state ≡ false → IsTaped told [] → HasTape spec (rendered folder calls told)
  rendered_taped told same stays taped = by_start (is_some told.machine.context.started)
    where
      by_start : (b : Bool) → HasTape spec (if b then turns (quanta_left told.machine) folder calls told [] else finished told [])
      by_start true = turns_taped (quanta_left told.machine) told [] same stays (λ some. let time = taped.time in let low = taped.steady.valid.spec.length_low in omega (arith, time, low)) taped
      by_start false = open_taped told [] same stays taped

-- ---- the session

supported_taped : (folder : Folder) (script : Script) → AreCallsAfter 0 script.calls → is_supported script.context ≡ true → HasTape script.context (session_of folder script)
unfolding session_of
supported_taped folder script are supported =
    let first = first_told script.context in
    let spec = script.context in
    rw supported
    (rendered_taped folder script.calls are spec (main_list folder script.calls first) (list_spec folder script.calls are spec first 0) (list_open folder script.calls are spec first 0 refl)
    (list_taped folder script.calls are spec first [] 0 (first_taped spec (is_in_ranges spec supported))))

-- the tape of every session has what holds of tapes
pub session_taped : TapeLaw
session_taped folder script are = by_support (is_supported script.context) refl
  where
    by_support : (b : Bool) → is_supported script.context ≡ b → HasTape script.context (session_of folder script)
    by_support true is = supported_taped folder script are is
    by_support false is = refused_tape folder script is
