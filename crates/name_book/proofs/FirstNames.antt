-- The first names of nodes, and what a binding changes of them.
use Rattle.std.proofs.Common.{◌≡◌, ℕ, true, false, nat_eq, List, [], ◌∷◌, ◌++◌, is_some, IsSome, refl, sym, inl, inr}
use Rattle.std.proofs.lemmas.Bool.{cases_Bool, eq-eqb}
use Rattle.name_book.specs.declared.book.Object.{Object}
use Rattle.name_book.specs.declared.book.Object.TheVariants.{Node, Buffer}
use Rattle.name_book.specs.Book.{first_name_of, first_named, HasFirstName}

last_is_there : (names : List (ℕ × List ℕ)) (node : ℕ) (name : List ℕ) → IsSome (first_name_of (names ++ (node, name) ∷ []) node)
last_is_there [] node name = rw (eq-eqb node node refl) refl
last_is_there (n ∷ names) node name = elim (cases_Bool (nat_eq node n.0)) [
  | inl same ↦ rw same refl
  | inr other ↦ rw other (last_is_there names node name)
]

first_is_kept : (names more : List (ℕ × List ℕ)) (node : ℕ) → IsSome (first_name_of names node) → first_name_of (names ++ more) node ≡ first_name_of names node
first_is_kept [] more node there = absurd (true_false (sym there))
  where
    true_false : true ≡ false → ⊥
    true_false p = cc
first_is_kept (n ∷ names) more node there = elim (cases_Bool (nat_eq node n.0)) [
  | inl same ↦ rw same refl
  | inr other ↦ rw other (first_is_kept names more node (rw other at there))
]

-- a node that was bound has a first name
pub first_name_is_there : (names : List (ℕ × List ℕ)) (object : Object) (name : List ℕ) → HasFirstName (first_named names object name) object
first_name_is_there names (Node node) name = elim (cases_Bool (is_some (first_name_of names node.0))) [
  | inl there ↦ rw there there
  | inr absent ↦ rw absent (last_is_there names node.0 name)
]
first_name_is_there names (Buffer buffer) name = tt

-- a node keeps its first name
pub first_name_is_kept : (names : List (ℕ × List ℕ)) (object : Object) (name : List ℕ) (node : ℕ)
    → IsSome (first_name_of names node) → first_name_of (first_named names object name) node ≡ first_name_of names node
first_name_is_kept names (Node new) name node there = elim (cases_Bool (is_some (first_name_of names new.0))) [
  | inl known ↦ rw known refl
  | inr absent ↦ rw absent (first_is_kept names ((new.0, name) ∷ []) node there)
]
first_name_is_kept names (Buffer buffer) name node there = refl
