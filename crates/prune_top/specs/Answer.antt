-- The answer of the program to a command line, a script and a folder of assets.
use Rattle.std.specs.Prelude.{ℕ, ◌++◌, nat_lt, List, [], length, decimal, codes, if◌then◌else◌, Option, Some, None, Result, Ok, Err}
use Rattle.answers.specs.Outside.{File}
use Rattle.answers.specs.FaultLine.{fault_line}
use Rattle.script_ast.specs.declared.call_list.Script.{Script}
use Rattle.script_json.specs.Script.{script_of}
use Rattle.script_fields.specs.declared.faults.ScriptErr.{ScriptErr}
use Rattle.script_text.specs.Text.{script_text}
use Rattle.transcript.specs.Text.{text_of}
use Rattle.session.specs.Folders.{Folder}
use Rattle.session.specs.Rendering.{completes}
use Rattle.session.specs.Session.{Played, session_of}
use Rattle.prune_script.specs.Pruned.{pruned}
use Rattle.prune_top.specs.declared.status.Status.{Status}
use Rattle.prune_top.specs.declared.status.Status.TheVariants.{Done, BadWords, NotCompleted, BadScript, ScriptTooLong}
use Rattle.prune_top.specs.Words.{Text, usage}

-- how the run is to end, what the sink is to get, and the file of OUT, where there is one
pub record Answer : Type 0 where
  pub status : Status
  pub text : Text
  pub file : Option File

abbrev pub without_file : Status → Text → Answer
without_file status text = record { status = status; text = text; file = None }

-- the most bytes that a script may have
abbrev pub max_script : ℕ
max_script = 16777216

-- the text of a script goes into the file OUT, and a line tells how many calls are kept of how many
abbrev pub with_script : Text → ℕ → ℕ → Script → Answer
with_script out kept all part = record {
  status = Done;
  text = codes "pruned " ++ decimal kept ++ codes " of " ++ decimal all ++ codes "\n";
  file = Some (record { path = out; bytes = script_text part });
}

abbrev pub with_pruned : Text → Script → Script → Answer
with_pruned out script part = with_script out (length part.calls) (length script.calls) part

-- to a session: where it completed, the script without what is not heard, by its lines; else how it ended
abbrev pub answer_to_session : Text → Script → Played → Answer
answer_to_session out script session =
    if completes session.end then with_pruned out script (pruned script session.lines)
    else without_file NotCompleted (text_of [] session.end)

abbrev pub answer_to_script : Folder → Text → Result Script ScriptErr → Answer
answer_to_script folder out (Ok script) = answer_to_session out script (session_of folder script)
answer_to_script folder out (Err fault) = without_file BadScript (fault_line fault)

abbrev pub answer_to_bytes : Folder → Text → List ℕ → Answer
answer_to_bytes folder out bytes = if nat_lt max_script (length bytes) then without_file ScriptTooLong [] else answer_to_script folder out (script_of bytes)

-- the answer over a folder of assets to the file that words name, if they have a reading, and to the bytes of a script
abbrev pub answer_of : Folder → Option Text → List ℕ → Answer
answer_of folder None bytes = without_file BadWords usage
answer_of folder (Some out) bytes = answer_to_bytes folder out bytes
