-- Lists that are lent for writing.
use Rattle.std.specs.Prelude.{List, length, take, drop, ◌++◌, ℤ}

-- the list after its front was written over; it has as many items as before
abbrev pub overwritten : List ℤ → List ℤ → List ℤ
overwritten old new = take (length old) (new ++ drop (length new) old)
