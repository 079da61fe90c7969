-- What the paths of a file store hold.
use Rattle.std.specs.Prelude.{ℕ, ◌≡◌, ◌⊎◌, List, [], ◌++◌, take, Option, Some, unwrap_or}

-- what each path holds, `None` where there is no file
abbrev pub Paths : Type 0
Paths = List ℕ → Option (List ℕ)

-- each path holds what it held
abbrev pub SamePaths : Paths → Paths → Type 0
SamePaths old new = (q : List ℕ) → new q ≡ old q

-- each path but this one holds what it held
abbrev pub SameOthers : Paths → Paths → List ℕ → Type 0
SameOthers old new path = (q : List ℕ) → (q ≡ path → ⊥) → new q ≡ old q

-- the path holds these bytes, and each other path what it held
pub record Sets (old new : Paths) (path bytes : List ℕ) : Type 0 where
  pub here : new path ≡ Some bytes
  pub others : SameOthers old new path

-- what the path holds, nothing where there is no file
abbrev pub bytes_at : Paths → List ℕ → List ℕ
bytes_at paths path = unwrap_or (paths path) []

-- the path holds what it held and then these bytes; where there are none, it may also be that nothing changed
unfoldable pub AppendsWhole : Paths → Paths → List ℕ → List ℕ → Type 0
AppendsWhole old new path bytes = ((bytes ≡ []) × SamePaths old new) ⊎ Sets old new path (bytes_at old path ++ bytes)

-- nothing changed, or the path holds what it held and then a front part of the piece
abbrev pub AppendsPart : Paths → Paths → List ℕ → List ℕ → Type 0
AppendsPart old new path piece = SamePaths old new ⊎ ((n : ℕ) × Sets old new path (bytes_at old path ++ take n piece))
