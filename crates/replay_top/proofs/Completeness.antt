-- Where the answer of the program is Rendered.
use Rattle.std.proofs.Common.{ℕ, ◌≡◌, ◌≤◌, List, [], length, Bool, true, false, ◌||◌, ◌&&◌, Option, Some, None, Result, Ok, Err, refl, sym, ◌∙◌, ap, subst, arith, zero, suc, ◌++◌, ◌∷◌}
use Rattle.std.specs.Prelude.{is_some, IsSome, if◌then◌else◌, nat_lt}
use Rattle.std.specs.List.{list_any}
use Rattle.std.proofs.lemmas.Bool.Decides.{nat_tests}
use Rattle.wa_base.specs.Contexts.{is_supported}
use Rattle.wa_base.specs.declared.contexts.ContextSpec.{ContextSpec}
use Rattle.wa_base.specs.declared.exceptions.Exc.TheVariants.{NotSupported}
use Rattle.script_ast.specs.declared.call_list.Call.{Call}
use Rattle.script_ast.specs.declared.call_list.Script.{Script}
use Rattle.script_fields.specs.declared.faults.ScriptErr.{ScriptErr}
use Rattle.transcript.specs.declared.lines.EndWord.{EndWord}
use Rattle.transcript.specs.declared.lines.EndWord.TheVariants.{Completed, Stalled, Idle, Refused}
use Rattle.session.specs.Folders.{Folder}
use Rattle.ctx_state.specs.Context.{ContextView, first_context, turn_of, after_turn as turned, is_closed}
use Rattle.ctx_state.specs.declared.context.Turn.{Turn}
use Rattle.ctx_state.specs.declared.context.Turn.TheVariants.{Went, Due, Done}
use Rattle.session.specs.Session.{Told, Played, session_of, replayed, first_told, main_list, held_by, after_turn, after_list, quanta_from, quanta_left, by_turn, ByTurn, finished, turns, is_running}
use Rattle.control_side.specs.Step.{is_start}
use Rattle.meaning.specs.declared.world.World.{World}
use Rattle.command_line.specs.Words.{Reading, reading_by_word}
use Rattle.replay_top.specs.Answer.{Answer, max_script, status_of, without_file, answer_to_script, answer_to_bytes, answer_to_reading, answer}
use Rattle.replay_top.specs.Laws.{has_resume, EachResumes, started, Renders, IsRendered}
use Rattle.replay_top.specs.Words.{reads_source, script_asked}
use Rattle.replay_top.specs.declared.status.Status.TheVariants.{Rendered, ScriptTooLong}
use Rattle.control_side.proofs.Starting.{calls_start, calls_time}
use Rattle.session.proofs.Lasting.{calls_open, calls_context, calls_spec}
use Rattle.replay_top.proofs.Turns.{closed_completes, completed_closed, listed, still, listed_still, runs_on, waits, stays_closed, listed_context}

abbrev starts : List Call → Bool
starts calls = list_any (λ (call : Call). is_start call.op) (held_by 0 calls)

-- ---- turn by turn

-- a told session once the list of a suspension, or of startRendering, is done
abbrev later_told : Folder → List Call → Told → ℕ → Told
later_told folder calls told ordinal = after_list folder calls (after_turn told) ordinal

abbrev by_case : Folder → List Call → Told → List World → ℕ → Turn → Played
by_case folder calls told tape left turn =
    by_turn turn (turns left folder calls (after_turn told) (tape ++ told.machine.world ∷ []))
    (λ ordinal. let next = later_told folder calls told ordinal in if is_running next.machine.context.state then turns left folder calls next (tape ++ told.machine.world ∷ []) else finished next (tape ++ told.machine.world ∷ []))
    (λ ordinal. finished (later_told folder calls told ordinal) (tape ++ told.machine.world ∷ []))

abbrev ResumesBy : List Call → ContextView → ℕ → Turn → Type 0
ResumesBy calls context left turn =
    ByTurn turn (EachResumes left calls (turned context))
    (λ ordinal. (has_resume (held_by ordinal calls) ≡ true) × EachResumes left calls (listed calls context ordinal))
    (λ ordinal. Unit {0})

-- the turns of a session whose suspensions resume lead to its completion
turns_complete : (folder : Folder) (left : ℕ) (calls : List Call) (told : Told) (tape : List World) → IsSome told.machine.context.started → EachResumes left calls told.machine.context → (turns left folder calls told tape).end ≡ Completed
turns_complete folder zero calls told tape begun resumes = closed_completes told.machine.context resumes
turns_complete folder (suc left) calls told tape begun resumes = by_turns (turn_of told.machine.context) refl resumes (λ t ws b more. turns_complete folder left calls t ws b more)
  where
    by_turns : (turn : Turn) → turn_of told.machine.context ≡ turn → ResumesBy calls told.machine.context left turn
        → ((t : Told) (ws : List World) → IsSome t.machine.context.started → EachResumes left calls t.machine.context → (turns left folder calls t ws).end ≡ Completed) → (by_case folder calls told tape left turn).end ≡ Completed
    by_turns Went is more later = later (after_turn told) (tape ++ told.machine.world ∷ []) (still calls told.machine.context begun) more
    by_turns (Due ordinal) is more later =
        let next = later_told folder calls told ordinal in
        let longer = tape ++ told.machine.world ∷ [] in
        let same = listed_context folder calls told ordinal in
        ap (λ b. (if b then turns left folder calls next longer else finished next longer).end) (ap (λ (c : ContextView). is_running c.state) same ∙ runs_on calls told.machine.context begun ordinal is ∙ more.0)
        ∙ later next longer (subst (λ (c : ContextView). IsSome c.started) (sym same) (listed_still calls told.machine.context begun ordinal)) (subst (EachResumes left calls) (sym same) more.1)
    by_turns (Done ordinal) is more later =
        closed_completes (later_told folder calls told ordinal).machine.context (ap (λ (c : ContextView). is_closed c.state) (listed_context folder calls told ordinal) ∙ stays_closed calls told.machine.context begun ordinal is)

-- and only those
complete_resumes : (folder : Folder) (left : ℕ) (calls : List Call) (told : Told) (tape : List World) → IsSome told.machine.context.started → (turns left folder calls told tape).end ≡ Completed → EachResumes left calls told.machine.context
complete_resumes folder zero calls told tape begun end = completed_closed told.machine.context end
complete_resumes folder (suc left) calls told tape begun end = by_turns (turn_of told.machine.context) refl end (λ t ws b e. complete_resumes folder left calls t ws b e)
  where
    by_turns : (turn : Turn) → turn_of told.machine.context ≡ turn → (by_case folder calls told tape left turn).end ≡ Completed
        → ((t : Told) (ws : List World) → IsSome t.machine.context.started → (turns left folder calls t ws).end ≡ Completed → EachResumes left calls t.machine.context) → ResumesBy calls told.machine.context left turn
    by_turns Went is end later = later (after_turn told) (tape ++ told.machine.world ∷ []) (still calls told.machine.context begun) end
    by_turns (Due ordinal) is end later = by_resume (is_running next.machine.context.state) refl end
      where
        next : Told
        next = later_told folder calls told ordinal

        same : next.machine.context ≡ listed calls told.machine.context ordinal
        same = listed_context folder calls told ordinal

        by_resume : (b : Bool) → is_running next.machine.context.state ≡ b
            → (if b then turns left folder calls next (tape ++ told.machine.world ∷ []) else finished next (tape ++ told.machine.world ∷ [])).end ≡ Completed
            → (has_resume (held_by ordinal calls) ≡ true) × EachResumes left calls (listed calls told.machine.context ordinal)
        by_resume true runs end = (
          sym (runs_on calls told.machine.context begun ordinal is) ∙ sym (ap (λ (c : ContextView). is_running c.state) same) ∙ runs,
          subst (EachResumes left calls) same
              (later next (tape ++ told.machine.world ∷ []) (subst (λ (c : ContextView). IsSome c.started) (sym same) (listed_still calls told.machine.context begun ordinal)) end),
        )
        by_resume false runs end = absurd (apart (ap (λ (c : ContextView). is_closed c.state) same ∙ waits calls told.machine.context begun ordinal is) (completed_closed next.machine.context end))
          where
            apart : {b : Bool} → b ≡ false → b ≡ true → ⊥
            apart off on = let both = sym off ∙ on in cc
    by_turns (Done ordinal) is end later = tt

-- ---- a whole session

module _ (folder : Folder) (script : Script) where
  -- the session once its main list ran
  abbrev begun_told : Told
  begun_told = main_list folder script.calls (first_told script.context)

  begun_context : begun_told.machine.context ≡ started script
  begun_context = calls_context folder (held_by 0 script.calls) (first_told script.context)

  -- the main list takes no time
  begun_left : quanta_left begun_told.machine ≡ quanta_from 0 script.context
  begun_left =
      ap (λ (s : ContextSpec). quanta_from begun_told.machine.context.time s) (calls_spec folder (held_by 0 script.calls) (first_told script.context))
      ∙ ap (λ t. quanta_from t script.context) (ap (λ (c : ContextView). c.time) begun_context ∙ calls_time (held_by 0 script.calls) (first_context script.context))

  -- whether it starts the rendering
  started_is : is_some begun_told.machine.context.started ≡ starts script.calls
  started_is = ap (λ (c : ContextView). is_some c.started) begun_context ∙ calls_start (held_by 0 script.calls) (first_context script.context) ∙ or_false (starts script.calls)
    where
      or_false : (b : Bool) → (b || false) ≡ b
      or_false true = refl
      or_false false = refl

  -- what was not started is suspended at its start
  first_waits : is_closed begun_told.machine.context.state ≡ false
  first_waits = ap (λ (c : ContextView). is_closed c.state) begun_context ∙ calls_open (held_by 0 script.calls) (first_context script.context) refl

  abbrev by_start : Bool → Played
  by_start b = if b then turns (quanta_left begun_told.machine) folder script.calls begun_told [] else finished begun_told []

  abbrev by_support : Bool → Played
  by_support b = if b then replayed folder script.calls (first_told script.context) else record { lines = []; end = Refused (NotSupported None); tape = [] }

  resumes_told : EachResumes (quanta_from 0 script.context) script.calls (started script) → EachResumes (quanta_left begun_told.machine) script.calls begun_told.machine.context
  resumes_told resumes = subst (λ n. EachResumes n script.calls begun_told.machine.context) (sym begun_left) (subst (EachResumes (quanta_from 0 script.context) script.calls) (sym begun_context) resumes)

  told_resumes : EachResumes (quanta_left begun_told.machine) script.calls begun_told.machine.context → EachResumes (quanta_from 0 script.context) script.calls (started script)
  told_resumes resumes = subst (EachResumes (quanta_from 0 script.context) script.calls) begun_context (subst (λ n. EachResumes n script.calls begun_told.machine.context) begun_left resumes)

  renders_completes : Renders script → (session_of folder script).end ≡ Completed
  unfolding session_of
  renders_completes renders =
      let begun = started_is ∙ renders.starts in
      ap (λ b. (by_support b).end) renders.context
      ∙ ap (λ b. (by_start b).end) begun
      ∙ turns_complete folder (quanta_left begun_told.machine) script.calls begun_told [] begun (resumes_told renders.resumes)

  completes_renders : (session_of folder script).end ≡ Completed → Renders script
  unfolding session_of
  completes_renders is = by_test (is_supported script.context) refl is
    where
      by_test : (b : Bool) → is_supported script.context ≡ b → (by_support b).end ≡ Completed → Renders script
      by_test true supported end = by_begun (is_some begun_told.machine.context.started) refl end
        where
          by_begun : (b : Bool) → is_some begun_told.machine.context.started ≡ b → (by_start b).end ≡ Completed → Renders script
          by_begun true begun end = record {
            context = supported;
            starts = sym started_is ∙ begun;
            resumes = told_resumes (complete_resumes folder (quanta_left begun_told.machine) script.calls begun_told [] begun end);
          }
          by_begun false begun end = let closed = completed_closed begun_told.machine.context end in let waits = first_waits in absurd (let both = sym waits ∙ closed in cc)
      by_test false supported end = absurd cc

end_completed : (end : EndWord) → status_of end ≡ Rendered → end ≡ Completed
end_completed Completed is = refl
end_completed (Stalled frame) is = absurd cc
end_completed Idle is = absurd cc
end_completed (Refused exception) is = absurd cc

-- from the answer to what holds
renders_of_script : (asked : Reading) (folder : Folder) (read : Result Script ScriptErr) → (answer_to_script asked folder read).status ≡ Rendered → (script : Script) × (read ≡ Ok script) × Renders script
renders_of_script asked folder (Err fault) is = absurd cc
renders_of_script asked folder (Ok script) is = (script, refl, completes_renders folder script (end_completed (session_of folder script).end is))

abbrev by_length : Reading → Folder → List ℕ → Bool → Answer
by_length asked folder bytes long = if long then without_file ScriptTooLong [] else answer_to_script asked folder (script_asked asked bytes)

short_where : (reads : Bool) (bytes : List ℕ) → (reads && nat_lt max_script (length bytes)) ≡ false → reads ≡ true → length bytes ≤ max_script
short_where true bytes is on = grind (arith, nat_tests)
short_where false bytes is on = absurd cc

where_short : (reads : Bool) (bytes : List ℕ) → (reads ≡ true → length bytes ≤ max_script) → (reads && nat_lt max_script (length bytes)) ≡ false
where_short true bytes short = let within = short refl in grind (arith, nat_tests)
where_short false bytes short = refl

short_of_answer : (asked : Reading) (folder : Folder) (bytes : List ℕ) → (answer_to_bytes asked folder bytes).status ≡ Rendered
    → (reads_source asked ≡ true → length bytes ≤ max_script) × ((answer_to_script asked folder (script_asked asked bytes)).status ≡ Rendered)
short_of_answer asked folder bytes is = by_test (reads_source asked && nat_lt max_script (length bytes)) refl is
  where
    by_test : (b : Bool) → (reads_source asked && nat_lt max_script (length bytes)) ≡ b → (by_length asked folder bytes b).status ≡ Rendered
        → (reads_source asked ≡ true → length bytes ≤ max_script) × ((answer_to_script asked folder (script_asked asked bytes)).status ≡ Rendered)
    by_test true t whole = absurd cc
    by_test false t whole = (short_where (reads_source asked) bytes t, whole)

pub rendered_where : (words : List (List ℕ)) (bytes : List ℕ) (folder : Folder) → (answer words bytes folder).status ≡ Rendered → IsRendered words bytes
rendered_where words bytes folder is = by_reading (reading_by_word words) refl is
  where
    by_reading : (read : Option Reading) → reading_by_word words ≡ read → (answer_to_reading read folder bytes).status ≡ Rendered → IsRendered words bytes
    by_reading None n whole = absurd cc
    by_reading (Some asked) n whole =
        let parts = short_of_answer asked folder bytes whole in
        let script = renders_of_script asked folder (script_asked asked bytes) parts.1 in
        record { asked = asked; reads = n; short = parts.0; script = script.0; read = script.1; renders = script.2 }

-- and back
pub where_rendered : (words : List (List ℕ)) (bytes : List ℕ) (folder : Folder) → IsRendered words bytes → (answer words bytes folder).status ≡ Rendered
where_rendered words bytes folder is =
    ap (λ r. (answer_to_reading r folder bytes).status) is.reads
    ∙ ap (λ b. (by_length is.asked folder bytes b).status) (where_short (reads_source is.asked) bytes is.short)
    ∙ ap (λ r. (answer_to_script is.asked folder r).status) is.read
    ∙ ap status_of (renders_completes folder is.script is.renders)
