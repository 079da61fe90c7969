-- What a book's maps hold, as contracts see it.
use Rattle.std.proofs.Common.{◌≡◌, ℕ, true, false, nat_eq, List, [], ◌∷◌, ◌++◌, is_some, Vec, bytes_eq, refl, ap, inl, inr}
use Rattle.std.proofs.lemmas.Bool.{cases_Bool}
use Rattle.std.specs.Map.{lookup}
use Rattle.std.specs.declared.alloc.Global.{Global}
use Rattle.indexmap.specs.IndexMap.{insert_entry}
use Rattle.name_book.specs.declared.book.Object.{Object}
use Rattle.name_book.specs.Book.{bound}
use Rattle.name_book.specs.Rooms.{bindings_of}

pub bindings_after_insert : (es : List (Vec ℕ Global × Object)) (key : Vec ℕ Global) (object : Object)
    → bindings_of (insert_entry (λ x y. bytes_eq x.items y.items) es key object) ≡ bound (bindings_of es) key.items object
bindings_after_insert [] key object = refl
bindings_after_insert (e ∷ es) key object = elim (cases_Bool (bytes_eq key.items e.0.items)) [
  | inl same ↦ rw same refl
  | inr other ↦ rw other (ap (λ (bs : List (List ℕ × Object)). (e.0.items, e.1) ∷ bs) (bindings_after_insert es key object))
]

pub look_up_of_bindings : (es : List (Vec ℕ Global × Object)) (name : List ℕ)
    → lookup (λ (key : Vec ℕ Global). bytes_eq name key.items) es ≡ lookup (bytes_eq name) (bindings_of es)
look_up_of_bindings [] name = refl
look_up_of_bindings (e ∷ es) name = elim (cases_Bool (bytes_eq name e.0.items)) [
  | inl same ↦ rw same refl
  | inr other ↦ rw other (look_up_of_bindings es name)
]

pub insert_goes_last : (es : List (ℕ × List ℕ)) (node : ℕ) (name : List ℕ)
    → is_some (lookup (nat_eq node) es) ≡ false → insert_entry nat_eq es node name ≡ es ++ (node, name) ∷ []
insert_goes_last [] node name absent = refl
insert_goes_last (e ∷ es) node name absent = elim (cases_Bool (nat_eq node e.0)) [
  | inl same ↦ absurd (true_false (rw same at absent))
  | inr other ↦ rw other (ap (λ (ns : List (ℕ × List ℕ)). e ∷ ns) (insert_goes_last es node name (rw other at absent)))
]
  where
    true_false : true ≡ false → ⊥
    true_false p = cc
