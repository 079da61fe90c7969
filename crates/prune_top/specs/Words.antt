-- The words of a command line, and what they ask for.
use Rattle.std.specs.Prelude.{ℕ, ◌==◌, List, [], ◌∷◌, Bool, false, not, Option, Some, None, if◌then◌else◌, codes}

-- a text is its bytes
abbrev pub Text : Type 0
Text = List ℕ

-- the answer to words without a reading
abbrev pub usage : Text
usage = codes "words: waprune OUT\n"

-- whether a word names a file: it is not empty, and does not begin with `-`, which is 45
abbrev pub is_file_name : Text → Bool
is_file_name [] = false
is_file_name (first ∷ rest) = not (first == 45)

-- the file OUT that words name: one word that names a file; other words have no reading
abbrev pub out_of : List Text → Option Text
out_of (word ∷ []) = if is_file_name word then Some word else None
out_of words = None
