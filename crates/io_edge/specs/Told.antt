-- Bytes that an object of the outside may tell.
use Rattle.std.specs.Prelude.{ℕ, ◌<◌, ◌≡◌, List, length, take, Option, Some, None, ⊤}
use Rattle.std.specs.Io.KnownBytes.{Appends}

-- where the bytes are told, they are these
abbrev pub IsToldAs : Option (List ℕ) → List ℕ → Type 0
IsToldAs None bytes = ⊤
IsToldAs (Some told) bytes = told ≡ bytes

-- where the bytes are told, they grew by some front part of the text
abbrev pub AppendsFront : Option (List ℕ) → Option (List ℕ) → List ℕ → Type 0
AppendsFront old new text = (n : ℕ) × Appends old new (take n text)

-- the same, and the front part is not the whole text
abbrev pub AppendsProperFront : Option (List ℕ) → Option (List ℕ) → List ℕ → Type 0
AppendsProperFront old new text = (n : ℕ) × (n < length text) × Appends old new (take n text)
