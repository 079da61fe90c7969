-- What an answer, a text and at most one file, leaves outside.
use Rattle.std.specs.Prelude.{ℕ, ◌⊎◌, List, Bool, IsTrue, IsSome, take, Option, Some, None}
use Rattle.std.specs.Io.KnownBytes.{Appends}
use Rattle.io_edge.specs.Faults.{Rose}
use Rattle.io_edge.specs.Paths.{Paths, SamePaths, Sets}
use Rattle.io_edge.specs.Told.{AppendsFront, AppendsProperFront}

-- a file to be written
pub record File : Type 0 where
  pub path : List ℕ
  pub bytes : List ℕ

-- the sink and the file store at one moment: what they tell and how often they failed
pub record Outside : Type 0 where
  pub written : Option (List ℕ)
  pub sink_faults : ℕ
  pub tells : Bool
  pub paths : Paths
  pub write_faults : ℕ

abbrev pub outside : Option (List ℕ) → ℕ → Bool → Paths → ℕ → Outside
outside written sink_faults tells paths write_faults =
    record { written = written; sink_faults = sink_faults; tells = tells; paths = paths; write_faults = write_faults }

-- no file changed
abbrev pub SameFiles : Outside → Outside → Type 0
SameFiles old new = IsTrue old.tells → SamePaths old.paths new.paths

-- the file is written, where there is one, and nothing else changed
abbrev pub HasFile : Outside → Outside → Option File → Type 0
HasFile old new None = SameFiles old new
HasFile old new (Some file) = IsTrue old.tells → Sets old.paths new.paths file.path file.bytes

-- the file is as before or holds a front part of what it is to hold, and nothing else changed
abbrev pub HasFrontOfFile : Outside → Outside → Option File → Type 0
HasFrontOfFile old new None = SameFiles old new
HasFrontOfFile old new (Some file) = IsTrue old.tells → SamePaths old.paths new.paths ⊎ ((n : ℕ) × Sets old.paths new.paths file.path (take n file.bytes))

-- the sink got the whole text, and the file is written
abbrev pub Gives : List ℕ → Option File → Outside → Outside → Type 0
Gives text file old new = Appends old.written new.written text × HasFile old new file

-- the sink failed before it had the whole text, and no file changed
pub record IsTextFault (text : List ℕ) (old new : Outside) : Type 0 where
  pub cause : Rose old.sink_faults new.sink_faults
  pub front : AppendsProperFront old.written new.written text
  pub files : SameFiles old new

-- there is a file to be written, and the store failed, after the sink got the whole text
pub record IsFileFault (text : List ℕ) (file : Option File) (old new : Outside) : Type 0 where
  pub cause : Rose old.write_faults new.write_faults
  pub due : IsSome file
  pub whole : Appends old.written new.written text
  pub files : HasFrontOfFile old new file

-- memory ran out: the sink got a front part of the text and no file changed, or it got the whole text and the file was begun
abbrev pub IsCutShort : List ℕ → Option File → Outside → Outside → Type 0
IsCutShort text file old new =
    (AppendsFront old.written new.written text × SameFiles old new)
    ⊎ (Appends old.written new.written text × HasFrontOfFile old new file)
