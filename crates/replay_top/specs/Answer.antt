-- The answer of the program to a command line and a script.
use Rattle.std.specs.Prelude.{ℕ, List, [], length, nat_lt, Bool, true, false, ◌&&◌, if◌then◌else◌, Option, Some, None, Result, Ok, Err}
use Rattle.wa_base.specs.Contexts.{quantum_of}
use Rattle.wa_base.specs.declared.contexts.ContextSpec.{ContextSpec}
use Rattle.script_ast.specs.declared.call_list.Script.{Script}
use Rattle.script_text.specs.Text.{script_text}
use Rattle.script_fields.specs.declared.faults.ScriptErr.{ScriptErr}
use Rattle.transcript.specs.Text.{text_of}
use Rattle.transcript.specs.Summary.{summary_of}
use Rattle.transcript.specs.Loudness.{loudness_of}
use Rattle.transcript.specs.declared.loudness.Loudness.{Loudness}
use Rattle.transcript.specs.declared.lines.EndWord.{EndWord}
use Rattle.transcript.specs.declared.lines.EndWord.TheVariants.{Completed, Stalled, Idle, Refused}
use Rattle.wav_io.specs.WavText.{wav_bytes}
use Rattle.command_line.specs.Words.{Reading, reading_by_word, renders, migrates, usage}
use Rattle.session.specs.Rendering.{completes}
use Rattle.session.specs.Rows.{samples_of}
use Rattle.session.specs.Folders.{Folder}
use Rattle.session.specs.Session as session
use Rattle.session.specs.Session.{Played, session_of}
use Rattle.meaning.specs.declared.world.World.{World}
use Rattle.meaning.specs.Rendered.{rows}
use Rattle.answers.specs.FaultLine.{fault_line}
use Rattle.answers.specs.Outside.{File}
use Rattle.replay_top.specs.Words.{reads_source, script_asked}
use Rattle.replay_top.specs.declared.status.Status.{Status}
use Rattle.replay_top.specs.declared.status.Status.TheVariants.{Rendered, Unrendered, BadWords, BadScript, ScriptTooLong}

-- how the run is to end, what the sink is to get, and the file of OUT, where there is one
pub record Answer : Type 0 where
  pub status : Status
  pub text : List ℕ
  pub file : Option File

-- the most bytes that a script may have
abbrev pub max_script : ℕ
max_script = 16777216

abbrev pub without_file : Status → List ℕ → Answer
without_file status text = record { status = status; text = text; file = None }

-- ---- a session

-- the status of a session that ended so
abbrev pub status_of : EndWord → Status
status_of Completed = Rendered
status_of (Stalled frame) = Unrendered
status_of Idle = Unrendered
status_of (Refused exception) = Unrendered

-- the file OUT with these bytes
abbrev pub file_at_out : Reading → List ℕ → File
file_at_out asked bytes = record { path = asked.out; bytes = bytes }

-- a tape's WAV file, with a row for each frame
abbrev pub wav_of_tape : Reading → ContextSpec → List World → File
wav_of_tape asked spec tape = file_at_out asked (wav_bytes spec.rate spec.channels asked.bits (rows (quantum_of spec) tape spec))

-- whether there are samples: they are rendered, and the session completed
abbrev pub has_samples : Reading → Played → Bool
has_samples asked session = renders asked.mode && completes session.end

-- whether a session ran: its context was not refused
abbrev pub runs : EndWord → Bool
runs Completed = true
runs (Stalled frame) = true
runs Idle = true
runs (Refused exception) = false

-- whether the script is written: that is asked for, and its session ran
abbrev pub is_migrated : Reading → EndWord → Bool
is_migrated asked end = migrates asked.mode && runs end

-- the script as one of version 2
abbrev pub migrated : Reading → Script → File
migrated asked script = file_at_out asked (script_text script)

-- where there are samples there is a WAV file; where the script is written that is the file
abbrev pub file_of : Reading → Script → Played → Option File
file_of asked script session =
    if has_samples asked session then Some (wav_of_tape asked script.context session.tape)
    else if is_migrated asked session.end then Some (migrated asked script)
    else None

-- where there are samples they have a loudness
abbrev pub loudness_in : Reading → ContextSpec → Played → Option Loudness
loudness_in asked spec session = if has_samples asked session then Some (loudness_of (samples_of session.tape spec)) else None

-- the text of a session: its transcript, or its summary where the script is generated
abbrev pub text_in : Reading → ContextSpec → Played → List ℕ
text_in asked spec session =
    if reads_source asked
    then text_of session.lines session.end
    else summary_of session.lines (length session.tape) (loudness_in asked spec session) session.end

-- the text of a script's session, and its file
abbrev pub answer_to_session : Reading → Script → Played → Answer
answer_to_session asked script session = record {
  status = status_of session.end;
  text = text_in asked script.context session;
  file = file_of asked script session;
}

-- ---- a script

abbrev pub answer_to_script : Reading → Folder → Result Script ScriptErr → Answer
answer_to_script asked folder (Ok script) = answer_to_session asked script (session_of folder script)
answer_to_script asked folder (Err fault) = without_file BadScript (fault_line fault)

abbrev pub answer_to_bytes : Reading → Folder → List ℕ → Answer
answer_to_bytes asked folder bytes =
    if reads_source asked && nat_lt max_script (length bytes)
    then without_file ScriptTooLong []
    else answer_to_script asked folder (script_asked asked bytes)

-- ---- words

abbrev pub answer_to_reading : Option Reading → Folder → List ℕ → Answer
answer_to_reading None folder bytes = without_file BadWords usage
answer_to_reading (Some asked) folder bytes = answer_to_bytes asked folder bytes

-- the answer to the words of a command line and the bytes of a script, over a folder of assets
abbrev pub answer : List (List ℕ) → List ℕ → Folder → Answer
answer words bytes folder = answer_to_reading (reading_by_word words) folder bytes

-- the session of a script looks into the folder
abbrev pub Decodes : Folder → Result Script ScriptErr → Type 0
Decodes folder (Ok script) = session.SessionDecodes folder script
Decodes folder (Err fault) = ⊥

-- the session of the script that is asked for does
abbrev pub AskedDecodes : Option Reading → Folder → List ℕ → Type 0
AskedDecodes None folder bytes = ⊥
AskedDecodes (Some asked) folder bytes = Decodes folder (script_asked asked bytes)
