-- What a run leaves outside, against the answer of the program.
use Rattle.std.specs.Prelude.{ℕ, ◌≡◌, ◌⊎◌, List, Bool, true, false, IsTrue, Option}
use Rattle.std.specs.Io.KnownBytes.{Appends, Keeps, IsAtEnd}
use Rattle.io_edge.specs.Faults.{Rose}
use Rattle.io_edge.specs.Told.{AppendsFront, AppendsProperFront}
use Rattle.command_line.specs.Words.{Reading}
use Rattle.answers.specs.Outside.{Outside, SameFiles, Gives, IsTextFault, IsFileFault, IsCutShort}
use Rattle.replay_top.specs.Answer.{Answer}
use Rattle.replay_top.specs.Words.{asks_source}
use Rattle.replay_top.specs.declared.status.Status.{Status}
use Rattle.replay_top.specs.declared.status.Status.TheVariants.{Rendered, Unrendered, BadWords, BadScript, ScriptTooLong, ScriptFault, AssetFault, TranscriptFault, WavFault, NoMemory}

-- the run ended as the answer says, with all of its text and its file
abbrev pub IsWhole : Status → Answer → Outside → Outside → Type 0
IsWhole status answer old new = (status ≡ answer.status) × Gives answer.text answer.file old new

-- a session that looks into the folder of assets could not read a file, before anything was written
pub record IsAssetFault (decodes : Type 0) (faults now : ℕ) (old new : Outside) : Type 0 where
  pub cause : Rose faults now
  pub runs : decodes
  pub text : Keeps old.written new.written
  pub files : SameFiles old new

-- how a run ended that is told its answer
abbrev pub Answers : Status → Answer → Outside → Outside → Type 0
Answers TranscriptFault answer old new = IsTextFault answer.text old new
Answers WavFault answer old new = IsFileFault answer.text answer.file old new
Answers NoMemory answer old new = IsCutShort answer.text answer.file old new
Answers ScriptFault answer old new = ⊥
Answers AssetFault answer old new = ⊥
Answers status answer old new = IsWhole status answer old new

-- how a run ended whose script was read, where a store's count of failed reads went from `faults` to `now`
abbrev pub Replays : Status → Answer → Type 0 → ℕ → ℕ → Outside → Outside → Type 0
Replays AssetFault answer decodes faults now old new = IsAssetFault decodes faults now old new
Replays status answer decodes faults now old new = Answers status answer old new

-- the source's script is asked for, and the source failed before anything was written
pub record IsScriptFault (asked : Option Reading) (faults now : ℕ) (old new : Outside) : Type 0 where
  pub cause : Rose faults now
  pub read : IsTrue (asks_source asked)
  pub text : Keeps old.written new.written
  pub files : SameFiles old new

-- counts of faults before a run and after it: of the source, and of a store's reads
pub record Counts : Type 0 where
  pub faults : ℕ
  pub now : ℕ
  pub read_faults : ℕ
  pub read_now : ℕ

abbrev pub counts : ℕ → ℕ → ℕ → ℕ → Counts
counts faults now read_faults read_now = record { faults = faults; now = now; read_faults = read_faults; read_now = read_now }

-- how a run ended
abbrev pub Ran : Status → Option Reading → Answer → Type 0 → Counts → Outside → Outside → Type 0
Ran ScriptFault asked answer decodes count old new = IsScriptFault asked count.faults count.now old new
Ran AssetFault asked answer decodes count old new = IsAssetFault decodes count.read_faults count.read_now old new
Ran status asked answer decodes count old new = Answers status answer old new

-- where the source's script is asked for: which ends come only after it was read to its end, and which never comes
abbrev pub IsReadToEnd : Status → Option (List ℕ) → Option (List ℕ) → Type 0
IsReadToEnd Rendered left now = IsAtEnd now
IsReadToEnd Unrendered left now = IsAtEnd now
IsReadToEnd BadScript left now = IsAtEnd now
IsReadToEnd AssetFault left now = IsAtEnd now
IsReadToEnd TranscriptFault left now = IsAtEnd now
IsReadToEnd WavFault left now = IsAtEnd now
IsReadToEnd BadWords left now = ⊥
IsReadToEnd ScriptTooLong left now = Unit {0}
IsReadToEnd ScriptFault left now = Unit {0}
IsReadToEnd NoMemory left now = Unit {0}

-- what was read of the source, by whether its script is asked for; where it is not, the source is as it was
abbrev pub IsRead : Bool → Status → Option (List ℕ) → Option (List ℕ) → Type 0
IsRead true status left now = IsReadToEnd status left now
IsRead false status left now = Keeps left now

-- how a text ends that is the whole answer, where a sink's count of faults went from `faults` to `now`
abbrev pub TextEnds : Status → Status → List ℕ → Option (List ℕ) → Option (List ℕ) → ℕ → ℕ → Type 0
TextEnds result status text old new faults now =
    ((result ≡ status) × Appends old new text)
    ⊎ ((result ≡ TranscriptFault) × Rose faults now × AppendsProperFront old new text)
    ⊎ ((result ≡ NoMemory) × AppendsFront old new text)
