-- How the ends of a run meet the answer.
use Rattle.std.proofs.Common.{◌≡◌, ◌≤◌, ◌<◌, ℕ, List, [], length, Option, Some, None, Bool, true, false, if◌then◌else◌, Result, Ok, Err, nat_lt, arith, refl, sym, inl, inr, ◌∙◌, ◌&&◌, ap, subst}
use Rattle.std.specs.Prelude.{unwrap_or, IsTrue, is_none}
use Rattle.std.proofs.Math.Bool.{and-false}
use Rattle.std.specs.Io.KnownBytes.{IsAtEnd}
use Rattle.std.proofs.lemmas.Bool.Decides.{nat_tests}
use Rattle.io_edge.specs.Paths.{Paths, SamePaths}
use Rattle.io_edge.specs.Told.{IsToldAs}
use Rattle.script_ast.specs.declared.call_list.Script.{Script}
use Rattle.script_json.specs.Script.{script_of}
use Rattle.script_fields.specs.declared.faults.ScriptErr.{ScriptErr}
use Rattle.transcript.specs.declared.lines.EndWord.{EndWord}
use Rattle.transcript.specs.declared.lines.EndWord.TheVariants.{Completed, Stalled, Idle, Refused}
use Rattle.command_line.specs.Words.{Reading, reading_by_word}
use Rattle.load_gen.specs.Generator as generator
use Rattle.session.specs.Folders.{Folder}
use Rattle.session.specs.Session.{session_of}
use Rattle.answers.specs.Outside.{Outside, outside}
use Rattle.answers.proofs.Since.{gives_since, text_fault_since, file_fault_since, cut_short_since}
use Rattle.replay_top.specs.Answer.{Answer, Decodes, AskedDecodes, status_of, without_file, answer, answer_to_reading, answer_to_bytes, answer_to_script}
use Rattle.replay_top.specs.Run.{IsWhole, Answers, Replays, Counts, Ran, IsReadToEnd, TextEnds}
use Rattle.replay_top.specs.Words.{reads_source, asks_source, script_by, script_asked}
use Rattle.replay_top.specs.declared.status.Status.{Status}
use Rattle.replay_top.specs.declared.status.Status.TheVariants.{Rendered, Unrendered, BadWords, BadScript, ScriptTooLong, ScriptFault, AssetFault, TranscriptFault, WavFault, NoMemory}

-- how a run ends whose script was read
pub ran : (status : Status) (asked : Option Reading) (answer : Answer) (decodes : Type 0) (count : Counts) (old new : Outside) → Replays status answer decodes count.read_faults count.read_now old new → Ran status asked answer decodes count old new
ran Rendered asked answer decodes count old new ends = ends
ran Unrendered asked answer decodes count old new ends = ends
ran BadWords asked answer decodes count old new ends = ends
ran BadScript asked answer decodes count old new ends = ends
ran ScriptTooLong asked answer decodes count old new ends = ends
ran ScriptFault asked answer decodes count old new ends = absurd ends
ran AssetFault asked answer decodes count old new ends = ends
ran TranscriptFault asked answer decodes count old new ends = ends
ran WavFault asked answer decodes count old new ends = ends
ran NoMemory asked answer decodes count old new ends = ends

-- how it ends where no asset was to be read
pub replays : (status : Status) (answer : Answer) (decodes : Type 0) (faults now : ℕ) (old new : Outside) → Answers status answer old new → Replays status answer decodes faults now old new
replays Rendered answer decodes faults now old new ends = ends
replays Unrendered answer decodes faults now old new ends = ends
replays BadWords answer decodes faults now old new ends = ends
replays BadScript answer decodes faults now old new ends = ends
replays ScriptTooLong answer decodes faults now old new ends = ends
replays ScriptFault answer decodes faults now old new ends = absurd ends
replays AssetFault answer decodes faults now old new ends = absurd ends
replays TranscriptFault answer decodes faults now old new ends = ends
replays WavFault answer decodes faults now old new ends = ends
replays NoMemory answer decodes faults now old new ends = ends

-- ---- a store whose files were read in between, of which none changed

module _ (written : Option (List ℕ)) (sink_faults : ℕ) (tells : Bool) (paths later : Paths) (write_faults : ℕ) (new : Outside) (same : IsTrue tells → SamePaths paths later) where
  whole_since : (status : Status) (answer : Answer) → IsWhole status answer (outside written sink_faults tells later write_faults) new → IsWhole status answer (outside written sink_faults tells paths write_faults) new
  whole_since status answer ends = (ends.0, gives_since written sink_faults tells paths later write_faults new same answer.text answer.file ends.1)

  pub answers_since : (status : Status) (answer : Answer) → Answers status answer (outside written sink_faults tells later write_faults) new → Answers status answer (outside written sink_faults tells paths write_faults) new
  answers_since Rendered answer ends = whole_since Rendered answer ends
  answers_since Unrendered answer ends = whole_since Unrendered answer ends
  answers_since BadWords answer ends = whole_since BadWords answer ends
  answers_since BadScript answer ends = whole_since BadScript answer ends
  answers_since ScriptTooLong answer ends = whole_since ScriptTooLong answer ends
  answers_since ScriptFault answer ends = absurd ends
  answers_since AssetFault answer ends = absurd ends
  answers_since TranscriptFault answer ends = text_fault_since written sink_faults tells paths later write_faults new same answer.text ends
  answers_since WavFault answer ends = file_fault_since written sink_faults tells paths later write_faults new same answer.text answer.file ends
  answers_since NoMemory answer ends = cut_short_since written sink_faults tells paths later write_faults new same answer.text answer.file ends

-- how a run ended whose whole answer is a text
pub text_answered : (result status : Status) (text : List ℕ) (old new : Option (List ℕ)) (faults now : ℕ) (tells : Bool) (paths : Paths) (write_faults : ℕ)
    → (IsWhole status (without_file status text) (outside old faults tells paths write_faults) (outside new now tells paths write_faults)
    → Answers status (without_file status text) (outside old faults tells paths write_faults) (outside new now tells paths write_faults))
    → TextEnds result status text old new faults now
    → Answers result (without_file status text) (outside old faults tells paths write_faults) (outside new now tells paths write_faults)
text_answered result status text old new faults now tells paths write_faults whole (inl (is, all)) = rw is (whole (refl, (all, λ told q. refl)))
text_answered result status text old new faults now tells paths write_faults whole (inr (inl (is, cause, front))) =
    rw is (record { cause = cause; front = front; files = λ told q. refl })
text_answered result status text old new faults now tells paths write_faults whole (inr (inr (is, front))) = rw is (inl (front, λ told q. refl))

-- some bytes that a source may be said to have
pub told_bytes : (left : Option (List ℕ)) → IsToldAs left (unwrap_or left [])
told_bytes None = tt
told_bytes (Some bytes) = refl

pub answer_to_bytes-past : (asked : Reading) (folder : Folder) (bytes : List ℕ) → asked.generated ≡ None → 16777216 < length bytes
    → answer_to_bytes asked folder bytes ≡ without_file ScriptTooLong []
answer_to_bytes-past asked folder bytes none past = let long : nat_lt 16777216 (length bytes) ≡ true = grind (arith, nat_tests) in rw (none, long) refl

reads_end : (end : EndWord) → status_of end ≡ BadWords → ⊥
reads_end Completed is = cc
reads_end (Stalled frame) is = cc
reads_end Idle is = cc
reads_end (Refused exception) is = cc

-- the answer to a script is never that the words have no reading
reads_script : (asked : Reading) (folder : Folder) (script : Result Script ScriptErr) → (answer_to_script asked folder script).status ≡ BadWords → ⊥
reads_script asked folder (Ok script) is = reads_end (session_of folder script).end is
reads_script asked folder (Err fault) is = cc

-- words with this reading ask for the source where no script is generated
pub asks_where : (words : List (List ℕ)) (asked : Reading) → reading_by_word words ≡ Some asked → asked.generated ≡ None → asks_source (reading_by_word words) ≡ true
asks_where words asked is none = rw (is, none) refl

-- and do not where one is
pub asks_not : (words : List (List ℕ)) (asked : Reading) (number : ℕ) → reading_by_word words ≡ Some asked → asked.generated ≡ Some number → asks_source (reading_by_word words) ≡ false
asks_not words asked number is some = rw (is, some) refl

-- how a run ends whose script was there
module _ (status : Status) (words : List (List ℕ)) (asked : Reading) (folder : Folder) (bytes : List ℕ) (count : Counts) (old new : Outside) (is : reading_by_word words ≡ Some asked) where
  abbrev Asked : Result Script ScriptErr → Type 0
  Asked script = Replays status (answer_to_script asked folder script) (Decodes folder script) count.read_faults count.read_now old new

  abbrev RanBy : Option Reading → Answer → Type 0
  RanBy read answer = Ran status read answer (AskedDecodes read folder bytes) count old new

  -- the script that was asked for
  ran_asked : (reads_source asked && nat_lt 16777216 (length bytes)) ≡ false → Asked (script_asked asked bytes) → RanBy (reading_by_word words) (answer words bytes folder)
  ran_asked short ends =
      let whole = ap (λ long. if long then without_file ScriptTooLong [] else answer_to_script asked folder (script_asked asked bytes)) short in
      subst (λ (read : Option Reading). RanBy read (answer_to_reading read folder bytes)) (sym is)
      (subst (RanBy (Some asked)) (sym whole) (ran status (Some asked) (answer_to_script asked folder (script_asked asked bytes)) (Decodes folder (script_asked asked bytes)) count old new ends))

  -- that of the source
  pub ran_read : asked.generated ≡ None → length bytes ≤ 16777216 → Asked (script_of bytes) → RanBy (reading_by_word words) (answer words bytes folder)
  ran_read none within ends =
      let few : nat_lt 16777216 (length bytes) ≡ false = grind (arith, nat_tests) in
      ran_asked (ap (λ b. reads_source asked && b) few ∙ and-false (reads_source asked)) (subst Asked (sym (ap (λ g. script_by g bytes) none)) ends)

  -- that of a number
  pub ran_generated : (number : ℕ) → asked.generated ≡ Some number → Asked (Ok (generator.script number)) → RanBy (reading_by_word words) (answer words bytes folder)
  ran_generated number some ends =
      ran_asked (ap (λ g. is_none g && nat_lt 16777216 (length bytes)) some) (subst Asked (sym (ap (λ g. script_by g bytes) some)) ends)

-- where the script's bytes were read to their end, the source is at its end
pub IsReadToEnd-answered : (status : Status) (asked : Reading) (folder : Folder) (script : Result Script ScriptErr) (decodes : Type 0) (read_faults read_now : ℕ) (old new : Outside) (left now : Option (List ℕ))
    → Replays status (answer_to_script asked folder script) decodes read_faults read_now old new → IsAtEnd now → IsReadToEnd status left now
IsReadToEnd-answered Rendered asked folder script decodes read_faults read_now old new left now ends end = end
IsReadToEnd-answered Unrendered asked folder script decodes read_faults read_now old new left now ends end = end
IsReadToEnd-answered BadWords asked folder script decodes read_faults read_now old new left now ends end = reads_script asked folder script (sym ends.0)
IsReadToEnd-answered BadScript asked folder script decodes read_faults read_now old new left now ends end = end
IsReadToEnd-answered ScriptTooLong asked folder script decodes read_faults read_now old new left now ends end = tt
IsReadToEnd-answered ScriptFault asked folder script decodes read_faults read_now old new left now ends end = tt
IsReadToEnd-answered AssetFault asked folder script decodes read_faults read_now old new left now ends end = end
IsReadToEnd-answered TranscriptFault asked folder script decodes read_faults read_now old new left now ends end = end
IsReadToEnd-answered WavFault asked folder script decodes read_faults read_now old new left now ends end = end
IsReadToEnd-answered NoMemory asked folder script decodes read_faults read_now old new left now ends end = tt
