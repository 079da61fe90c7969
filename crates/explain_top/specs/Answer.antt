-- The answer of the program to a command line, a script and the files beside it.
use Rattle.std.specs.Prelude.{ℕ, ◌≡◌, ◌≢◌, ◌≤◌, ◌^◌, ◌⊎◌, ◌++◌, ◌&&◌, nat_lt, List, [], length, map, decimal, codes, Bool, true, false, Option, Some, None, Result, Ok, Err}
use Rattle.wa_base.specs.Contexts.{quantum_of}
use Rattle.wa_base.specs.declared.contexts.ContextSpec.{ContextSpec}
use Rattle.conn_graph.specs.Ends.{reader_of}
use Rattle.answers.specs.Outside.{File}
use Rattle.answers.specs.FaultLine.{fault_line}
use Rattle.script_ast.specs.declared.call_list.Script.{Script}
use Rattle.script_json.specs.Script.{script_of}
use Rattle.script_fields.specs.declared.faults.ScriptErr.{ScriptErr}
use Rattle.transcript.specs.Text.{text_of}
use Rattle.meaning.specs.declared.world.World.{World}
use Rattle.meaning.specs.World.{sounding}
use Rattle.session.specs.Folders.{Folder}
use Rattle.session.specs.Rendering.{completes}
use Rattle.session.specs.Session.{Played, session_of}
use Rattle.explain.specs.declared.facts.Fact.{Fact}
use Rattle.explain.specs.declared.facts.Key.{Key}
use Rattle.explain.specs.declared.facts.Key.TheVariants.{Out}
use Rattle.explain.specs.Texts.{fact_text, facts_text}
use Rattle.explain_top.specs.declared.checking.CheckErr.{CheckErr}
use Rattle.explain_top.specs.declared.checking.CheckErr.TheVariants as errors
use Rattle.explain_top.specs.declared.status.Status.{Status}
use Rattle.explain_top.specs.declared.status.Status.TheVariants.{Done, BadWords, NotCompleted, BadScript, ScriptTooLong, TooLong, Invalid, OutOfRange}
use Rattle.explain_top.specs.Derived.{IsDerivation, AreAllTooMany}
use Rattle.explain_top.specs.Faults.{IsDerivationOf, IsFault}
use Rattle.explain_top.specs.Words.{Request, Derive, Check, usage}

-- how the run is to end, what the sink is to get, and the file of OUT, where there is one
pub record Answer : Type 0 where
  pub status : Status
  pub text : List ℕ
  pub file : Option File

abbrev pub without_file : Status → List ℕ → Answer
without_file status text = record { status = status; text = text; file = None }

-- the most bytes that a script may have, and the text of a derivation
abbrev pub max_script : ℕ
max_script = 16777216

abbrev pub max_text : ℕ
max_text = 67108864

-- one thing where a test holds, and else another
abbrev pub By : Bool → Type 0 → Type 0 → Type 0
By true holds else = holds
By false holds else = else

-- ---- a derivation

-- the sample of a channel at a frame: what the destination, which is node 0, lets out
abbrev pub sample : ℕ → ℕ → Key
sample frame channel = Out frame (reader_of 0) 0 channel

abbrev pub is_rendered : ContextSpec → ℕ → ℕ → Bool
is_rendered spec frame channel = nat_lt frame spec.length && nat_lt channel spec.channels

-- the text of facts, as many as they are, goes into the file OUT
abbrev pub with_text : List ℕ → ℕ → List ℕ → Answer
with_text out count text = record {
  status = Done;
  text = codes "facts " ++ decimal count ++ codes "\n";
  file = Some (record { path = out; bytes = text });
}

-- A derivation of the sample is given out, or each one is too long.
abbrev pub IsDerived : ℕ → List World → Key → List ℕ → Answer → Type 0
IsDerived q tape key out answer =
    ((facts : List Fact) × IsDerivation q tape key facts × (length facts ≤ 2 ^ 20) × (length (facts_text facts) ≤ 2 ^ 26) × (answer ≡ with_text out (length facts) (facts_text facts)))
    ⊎ (AreAllTooMany q tape key × (answer ≡ without_file TooLong (codes "too long\n")))

-- ---- the text of a derivation

abbrev pub valid : Fact → Answer
valid x = without_file Done (codes "valid " ++ fact_text x ++ codes "\n")

abbrev pub invalid : List ℕ → Answer
invalid what = without_file Invalid (codes "invalid " ++ what ++ codes "\n")

abbrev pub with_fault : CheckErr → Answer
with_fault errors.Empty = invalid (codes "empty")
with_fault (errors.BadLine n) = invalid (decimal n)
with_fault (errors.Missing n) = invalid (decimal n)
with_fault (errors.Wrong n) = invalid (decimal n)
with_fault errors.NoMemory = invalid []

-- A text is checked, and then its last line is given out; or it has a fault.
abbrev pub IsTried : ℕ → List World → List ℕ → Answer → Type 0
IsTried q tape text answer =
    ((x : Fact) × IsDerivationOf q tape text x × (answer ≡ valid x))
    ⊎ ((e : CheckErr) × (e ≢ errors.NoMemory) × IsFault q tape text e × (answer ≡ with_fault e))

-- what the file IN holds is tried, where it is there and not too long
abbrev pub IsFileTried : ℕ → List World → Option (List ℕ) → Answer → Type 0
IsFileTried q tape None answer = answer ≡ invalid (codes "missing")
IsFileTried q tape (Some text) answer = By (nat_lt max_text (length text)) (answer ≡ invalid (codes "long")) (IsTried q tape text answer)

-- ---- a session

-- The answer to a tape, by what the file IN holds.
abbrev pub IsAnswerToTape : Option (List ℕ) → Request → ContextSpec → List World → Answer → Type 0
IsAnswerToTape found (Derive frame channel out) spec tape answer =
    By (is_rendered spec frame channel) (IsDerived (quantum_of spec) tape (sample frame channel) out answer) (answer ≡ without_file OutOfRange (codes "out of range\n"))
IsAnswerToTape found (Check text) spec tape answer = IsFileTried (quantum_of spec) tape found answer

-- To a session: where it completed, to a tape that sounds as its own.
abbrev pub IsAnswerToSession : Option (List ℕ) → Request → ContextSpec → Played → Answer → Type 0
IsAnswerToSession found asked spec session answer =
    By (completes session.end) ((tape : List World) × (map sounding tape ≡ map sounding session.tape) × IsAnswerToTape found asked spec tape answer)
    (answer ≡ without_file NotCompleted (text_of [] session.end))

-- ---- words and a script, over a folder of assets

abbrev pub IsAnswerToScript : Folder → Option (List ℕ) → Request → Result Script ScriptErr → Answer → Type 0
IsAnswerToScript folder found asked (Ok script) answer = IsAnswerToSession found asked script.context (session_of folder script) answer
IsAnswerToScript folder found asked (Err fault) answer = answer ≡ without_file BadScript (fault_line fault)

abbrev pub IsAnswerToBytes : Folder → Option (List ℕ) → Request → List ℕ → Answer → Type 0
IsAnswerToBytes folder found asked bytes answer =
    By (nat_lt max_script (length bytes)) (answer ≡ without_file ScriptTooLong []) (IsAnswerToScript folder found asked (script_of bytes) answer)

-- The answer to what words ask for, where they have a reading, and to the bytes of a script, over a folder of assets and what the file IN holds.
abbrev pub IsAnswer : Folder → Option (List ℕ) → Option Request → List ℕ → Answer → Type 0
IsAnswer folder found None bytes answer = answer ≡ without_file BadWords usage
IsAnswer folder found (Some asked) bytes answer = IsAnswerToBytes folder found asked bytes answer
