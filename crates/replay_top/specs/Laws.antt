-- What is said of the answer of the program.
use Rattle.std.specs.Prelude.{ℕ, zero, suc, ◌≡◌, ◌≤◌, ◌↔◌, List, length, Bool, true, Some, Ok}
use Rattle.std.specs.List.{list_any}
use Rattle.wa_base.specs.Contexts.{is_supported}
use Rattle.script_ast.specs.declared.call_list.Call.{Call}
use Rattle.script_ast.specs.declared.call_list.Script.{Script}
use Rattle.command_line.specs.Words.{Reading, reading_by_word}
use Rattle.ctx_state.specs.Context.{ContextView, first_context, turn_of, after_turn, is_closed}
use Rattle.session.specs.Folders.{Folder}
use Rattle.control_side.specs.Contexts.{context_after_calls}
use Rattle.session.specs.Session.{held_by, quanta_from, ByTurn}
use Rattle.control_side.specs.Step.{is_start, is_resume}
use Rattle.replay_top.specs.Answer.{answer, max_script}
use Rattle.replay_top.specs.Words.{reads_source, script_asked}
use Rattle.replay_top.specs.declared.status.Status.TheVariants.{Rendered}

-- whether a list has a resume
abbrev pub has_resume : List Call → Bool
has_resume calls = list_any (λ (call : Call). is_resume call.op) calls

-- Turn by turn, the list of each suspension that becomes due has a resume, until the length is reached; with no quantum left, the context is closed.
abbrev pub EachResumes : ℕ → List Call → ContextView → Type 0
EachResumes zero calls context = is_closed context.state ≡ true
EachResumes (suc left) calls context =
    ByTurn (turn_of context)
    (EachResumes left calls (after_turn context))
    (λ ordinal. (has_resume (held_by ordinal calls) ≡ true) × EachResumes left calls (context_after_calls (after_turn context) (held_by ordinal calls)))
    (λ ordinal. Unit {0})

-- the context of a script once its main list ran, which takes no time
abbrev pub started : Script → ContextView
started script = context_after_calls (first_context script.context) (held_by 0 script.calls)

-- a script whose context can be rendered, whose main list starts the rendering, and whose suspensions resume
pub record Renders (script : Script) : Type 0 where
  pub context : is_supported script.context ≡ true
  pub starts : list_any (λ (call : Call). is_start call.op) (held_by 0 script.calls) ≡ true
  pub resumes : EachResumes (quanta_from 0 script.context) script.calls (started script)

-- words that have a reading, no more bytes than a script may have where they are asked for, and a script that is asked for and renders
pub record IsRendered (words : List (List ℕ)) (bytes : List ℕ) : Type 0 where
  pub asked : Reading
  pub reads : reading_by_word words ≡ Some asked
  pub short : reads_source asked ≡ true → length bytes ≤ max_script
  pub script : Script
  pub read : script_asked asked bytes ≡ Ok script
  pub renders : Renders script

-- The answer is Rendered exactly there, whatever the folder of assets holds.
abbrev pub CompletenessLaw : Type 0
CompletenessLaw = (words : List (List ℕ)) (bytes : List ℕ) (folder : Folder) → ((answer words bytes folder).status ≡ Rendered) ↔ IsRendered words bytes
