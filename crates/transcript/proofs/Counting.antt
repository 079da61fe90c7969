-- How many lines of a list are so, one line after another.
use Rattle.std.proofs.Common.{◌≡◌, ◌≤◌, ℕ, ◌+◌, List, ◌∷◌, length, drop, Bool, true, false, cond, ap, ◌∙◌, arith}
use Rattle.std.specs.Prelude.{filter}
use Rattle.std.specs.Int.{from_bool}
use Rattle.transcript.specs.declared.lines.Line.{Line}
use Rattle.transcript.specs.Summary.{count}

one_or_none : (so : Bool) (x : Line) (xs : List Line) → length (cond so (x ∷ xs) xs) ≡ from_bool so + length xs
one_or_none true x xs = omega arith
one_or_none false x xs = omega arith

-- a line that was counted is not among those that are left
pub count_more : (test : Line → Bool) (so_far i total : ℕ) (lines : List Line) (x : Line) → drop i lines ≡ x ∷ drop (i + 1) lines
    → so_far + count test (drop i lines) ≡ total → so_far + from_bool (test x) + count test (drop (i + 1) lines) ≡ total
count_more test so_far i total lines x left is =
    let first = ap (count test) left ∙ one_or_none (test x) x (filter test (drop (i + 1) lines)) in
    omega (arith, first, is)

pub at_most_one : (so : Bool) → from_bool so ≤ 1
at_most_one true = omega arith
at_most_one false = omega arith
