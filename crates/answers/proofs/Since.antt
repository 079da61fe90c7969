-- An answer that is given out after files were read, of which none changed.
use Rattle.std.proofs.Common.{ℕ, List, Bool, Option, Some, None, ◌∙◌, inl, inr}
use Rattle.std.specs.Prelude.{IsTrue, take}
use Rattle.io_edge.specs.Paths.{Paths, SamePaths, Sets}
use Rattle.answers.specs.Outside.{File, Outside, outside, SameFiles, HasFile, HasFrontOfFile, Gives, IsTextFault, IsFileFault, IsCutShort}

module _ (written : Option (List ℕ)) (sink_faults : ℕ) (tells : Bool) (paths later : Paths) (write_faults : ℕ) (new : Outside) (same : IsTrue tells → SamePaths paths later) where
  abbrev before : Outside
  before = outside written sink_faults tells paths write_faults

  abbrev since : Outside
  since = outside written sink_faults tells later write_faults

  pub files_since : SameFiles since new → SameFiles before new
  files_since is told q = is told q ∙ same told q

  sets_since : (path bytes : List ℕ) → IsTrue tells → Sets later new.paths path bytes → Sets paths new.paths path bytes
  sets_since path bytes told sets = record { here = sets.here; others = λ q other. sets.others q other ∙ same told q }

  pub file_since : (file : Option File) → HasFile since new file → HasFile before new file
  file_since None has = files_since has
  file_since (Some file) has = λ told. sets_since file.path file.bytes told (has told)

  pub front_since : (file : Option File) → HasFrontOfFile since new file → HasFrontOfFile before new file
  front_since None has = files_since has
  front_since (Some file) has = λ told. elim (has told) [
    | inl is ↦ inl (λ q. is q ∙ same told q)
    | inr part ↦ inr (part.0, sets_since file.path (take part.0 file.bytes) told part.1)
  ]

  pub gives_since : (text : List ℕ) (file : Option File) → Gives text file since new → Gives text file before new
  gives_since text file gives = (gives.0, file_since file gives.1)

  pub text_fault_since : (text : List ℕ) → IsTextFault text since new → IsTextFault text before new
  text_fault_since text fault = record { cause = fault.cause; front = fault.front; files = files_since fault.files }

  pub file_fault_since : (text : List ℕ) (file : Option File) → IsFileFault text file since new → IsFileFault text file before new
  file_fault_since text file fault = record { cause = fault.cause; due = fault.due; whole = fault.whole; files = front_since file fault.files }

  pub cut_short_since : (text : List ℕ) (file : Option File) → IsCutShort text file since new → IsCutShort text file before new
  cut_short_since text file (inl (front, files)) = inl (front, files_since files)
  cut_short_since text file (inr (whole, files)) = inr (whole, front_since file files)
