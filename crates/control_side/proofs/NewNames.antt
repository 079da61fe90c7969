-- Names that a node may be given.
use Rattle.std.proofs.Common.{◌≡◌, ℕ, List, subst}
use Rattle.std.specs.Prelude.{IsTrue}
use Rattle.script_ast.specs.Ranges.{is_new_name, IsNewName}
use Rattle.name_book.specs.Book.{destination}

-- a new name is not that of the destination
pub is_not_destination : (name : List ℕ) → IsNewName name → name ≡ destination → ⊥
unfolding is_new_name destination
is_not_destination name new is =
    let P : List ℕ → Type 0 = λ n. IsTrue (is_new_name n) in
    let wrong = subst P is new in
    cc
