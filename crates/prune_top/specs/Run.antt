-- What a run leaves outside, against the answer of the program.
use Rattle.std.specs.Prelude.{ℕ, ◌≡◌, ◌⊎◌, List, [], Bool, true, false, IsSome, Option, Some, None, Result, Ok, Err}
use Rattle.std.specs.Io.KnownBytes.{Keeps, IsAtEnd}
use Rattle.io_edge.specs.Faults.{Rose}
use Rattle.io_edge.specs.Paths.{Paths}
use Rattle.io_edge.specs.Told.{IsToldAs}
use Rattle.answers.specs.Outside.{Outside, SameFiles, Gives, IsTextFault, IsFileFault, IsCutShort}
use Rattle.script_ast.specs.declared.call_list.Script.{Script}
use Rattle.script_json.specs.Script.{script_of}
use Rattle.script_fields.specs.declared.faults.ScriptErr.{ScriptErr}
use Rattle.session.specs.Folders.{Folder, IsFolderOf}
use Rattle.session.specs.Session.{SessionDecodes}
use Rattle.prune_top.specs.Answer.{Answer, answer_of, without_file}
use Rattle.prune_top.specs.Words.{Text}
use Rattle.prune_top.specs.declared.status.Status.{Status}
use Rattle.prune_top.specs.declared.status.Status.TheVariants.{Done, BadWords, NotCompleted, BadScript, ScriptTooLong, ScriptFault, AssetFault, TranscriptFault, WavFault, NoMemory}

-- ---- what is told of the source and the store

-- Something holds of a folder of assets that a store may have.
abbrev pub Over : Bool → Paths → (Folder → Type 0) → Type 0
Over tells paths Holds = (folder : Folder) × IsFolderOf tells paths folder × Holds folder

-- An answer is the program's to the file that words name, over the bytes that a source tells and a folder of assets that a store tells.
pub record IsAnswerOver (left : Option (List ℕ)) (tells : Bool) (paths : Paths) (out : Option Text) (answer : Answer) : Type 0 where
  pub bytes : List ℕ
  pub source : IsToldAs left bytes
  pub is : Over tells paths (λ folder. answer ≡ answer_of folder out bytes)

-- ---- faults

-- whether the session of a script looks into the folder of assets
abbrev pub DecodesIn : Folder → Result Script ScriptErr → Type 0
DecodesIn folder (Ok script) = SessionDecodes folder script
DecodesIn folder (Err fault) = ⊥

-- an asset is read: words name a file, and the session of the script looks into the folder of assets
abbrev pub IsReading : Option (List ℕ) → Bool → Paths → Option Text → Type 0
IsReading left tells paths None = ⊥
IsReading left tells paths (Some out) = (bytes : List ℕ) × IsToldAs left bytes × Over tells paths (λ folder. DecodesIn folder (script_of bytes))

-- nothing was written
abbrev pub Nothing : Outside → Outside → Type 0
Nothing old new = Keeps old.written new.written × SameFiles old new

-- counts of faults before a run and after it: of the source, and of a store's reads
pub record Counts : Type 0 where
  pub faults : ℕ
  pub now : ℕ
  pub read_faults : ℕ
  pub read_now : ℕ

abbrev pub counts : ℕ → ℕ → ℕ → ℕ → Counts
counts faults now read_faults read_now = record { faults = faults; now = now; read_faults = read_faults; read_now = read_now }

-- ---- how a run ends, by what answers there may be

-- the answer was given out whole
abbrev pub IsWhole : Status → (Answer → Type 0) → Outside → Outside → Type 0
IsWhole status Is old new = (answer : Answer) × Is answer × (status ≡ answer.status) × Gives answer.text answer.file old new

abbrev pub Ran : Status → Option Text → (Answer → Type 0) → Type 0 → Counts → Outside → Outside → Type 0
Ran ScriptFault out Is Reads count old new = Rose count.faults count.now × IsSome out × Nothing old new
Ran AssetFault out Is Reads count old new = Rose count.read_faults count.read_now × Reads × Nothing old new
Ran TranscriptFault out Is Reads count old new = (answer : Answer) × Is answer × IsTextFault answer.text old new
Ran WavFault out Is Reads count old new = (answer : Answer) × Is answer × IsFileFault answer.text answer.file old new
Ran NoMemory out Is Reads count old new = Nothing old new ⊎ ((answer : Answer) × Is answer × IsCutShort answer.text answer.file old new)
Ran status out Is Reads count old new = IsWhole status Is old new

-- ---- what was read of the source

-- which ends come only after it was read to its end, and which never comes where the words have a reading
abbrev pub IsReadToEnd : Status → Option (List ℕ) → Type 0
IsReadToEnd BadWords now = ⊥
IsReadToEnd ScriptTooLong now = Unit {0}
IsReadToEnd ScriptFault now = Unit {0}
IsReadToEnd NoMemory now = Unit {0}
IsReadToEnd status now = IsAtEnd now

-- words without a reading leave the source as it was
abbrev pub IsRead : Option Text → Status → Option (List ℕ) → Option (List ℕ) → Type 0
IsRead None status left now = Keeps left now
IsRead (Some out) status left now = IsReadToEnd status now

-- whether a status is that of the answer to a script
abbrev pub is_of_script : Status → Bool
is_of_script Done = true
is_of_script NotCompleted = true
is_of_script BadScript = true
is_of_script status = false

-- Where the words have a reading, the source was read to its end, or it is too long.
abbrev pub IsAnsweredAt : Option Text → Answer → Option (List ℕ) → Type 0
IsAnsweredAt None answer now = Unit {0}
IsAnsweredAt (Some out) answer now = (answer ≡ without_file ScriptTooLong []) ⊎ ((is_of_script answer.status ≡ true) × IsAtEnd now)
