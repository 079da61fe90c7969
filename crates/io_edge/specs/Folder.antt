-- Files of a folder of the system.
use Rattle.std.specs.Prelude.{ℕ, ◌==◌, ◌||◌, List, Bool, true, false, codes, slice_index}
use Rattle.std.specs.List.{list_any, slice_split}
use Rattle.std.specs.Str.{bytes_eq}
use Rattle.std.specs.declared.io.ErrorKind.{ErrorKind}
use Rattle.std.specs.declared.io.ErrorKind.TheVariants.{NotFound, NotADirectory, InvalidInput}

-- how many reads failed and how many writes did, each of which stops at the last value of a counter of 64 bits
pub record FolderFaults : Type 0 where
  pub reads : ℕ
  pub writes : ℕ

-- the parts of a path, as slashes divide it
abbrev pub parts : List ℕ → List (List ℕ)
parts path = slice_split (λ byte. byte == 47) path

-- a part of the path is `..`, which names the folder above
abbrev pub has_parent : List ℕ → Bool
has_parent path = list_any (λ part. bytes_eq part (codes "..")) (parts path)

-- a path leads out of the folder that it begins in where it begins with a slash, and where a part of it is `..`
abbrev pub leads_out : List ℕ → Bool
leads_out path = (slice_index path 0 == 47) || has_parent path

-- the system finds no file: there is none of this name, what stands before a slash is no folder, or no file can have the name, as where it has a byte 0
abbrev pub finds_none : ErrorKind → Bool
finds_none NotFound = true
finds_none NotADirectory = true
finds_none InvalidInput = true
finds_none kind = false
