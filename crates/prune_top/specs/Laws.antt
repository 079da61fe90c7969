-- What is said of the session of a pruned script, and of its text.
use Rattle.std.specs.Prelude.{ℕ, ◌≡◌, List, All, true, false, Ok}
use Rattle.io_edge.specs.Paths.{Paths}
use Rattle.wa_base.specs.Contexts.{quantum_of, is_supported}
use Rattle.wa_base.specs.declared.contexts.ContextSpec.{ContextSpec}
use Rattle.script_ast.specs.WellFormed.{IsWellFormed}
use Rattle.script_ast.specs.declared.call_list.Script.{Script}
use Rattle.script_json.specs.Script.{script_of}
use Rattle.script_text.specs.Text.{script_text}
use Rattle.transcript.specs.Summary.{is_refusal}
use Rattle.transcript.specs.declared.lines.EndWord.TheVariants.{Completed}
use Rattle.transcript.specs.declared.lines.Line.{Line}
use Rattle.meaning.specs.Rendered.{rows}
use Rattle.prune_script.specs.Pruned.{pruned}
use Rattle.session.specs.Folders.{Folder}
use Rattle.session.specs.Session.{Played, session_of}

-- A session of a context does as another one, heard from outside: it completes, and renders the same rows. It refuses no call.
pub record SoundsAs (spec : ContextSpec) (whole part : Played) : Type 0 where
  pub end : part.end ≡ Completed
  pub accepted : All (λ (l : Line). is_refusal l ≡ false) part.lines
  pub rendered : rows (quantum_of spec) part.tape spec ≡ rows (quantum_of spec) whole.tape spec

-- a folder that holds the same at each moment
abbrev pub still : Paths → Folder
still held = λ moment. held

-- Where the session of a script completes, that of the pruned script sounds as it does, over the same assets.
abbrev pub PrunedLaw : Type 0
PrunedLaw = (held : Paths) (script : Script) → IsWellFormed script → (session_of (still held) script).end ≡ Completed
    → SoundsAs script.context (session_of (still held) script) (session_of (still held) (pruned script (session_of (still held) script).lines))

-- The text of a pruned script is read again as the pruned script, for every script that was read and whose context can be rendered.
abbrev pub PrunedTextLaw : Type 0
PrunedTextLaw = (bytes : List ℕ) (script : Script) (lines : List Line) → script_of bytes ≡ Ok script → IsWellFormed script → is_supported script.context ≡ true
    → script_of (script_text (pruned script lines)) ≡ Ok (pruned script lines)
