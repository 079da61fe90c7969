-- What names stand for, and what a binding changes of it.
use Rattle.std.proofs.Common.{◌≡◌, ℕ, ◌↔◌, true, false, cond, List, [], ◌∷◌, Option, Some, IsSome, bytes_eq, refl, sym, ap, ◌∙◌, inl, inr, if◌then◌else◌}
use Rattle.std.proofs.lemmas.Bool.{cases_Bool}
use Rattle.std.proofs.lemmas.Cmp.{nat_list_eq_equiv}
use Rattle.std.proofs.lemmas.Map.Views.{Contains-keys_from_lookup, IsSome-lookup_from_Contains}
use Rattle.std.proofs.lemmas.Slice.Eq.{bytes_eq-Decides}
use Rattle.std.specs.Map.{lookup}
use Rattle.name_book.specs.declared.book.Object.{Object}
use Rattle.name_book.specs.declared.book.Object.TheVariants.{Node}
use Rattle.name_book.specs.Book.{destination, bound, object_of, IsBound}

bytes_apart : (xs ys : List ℕ) → ¬ (xs ≡ ys) → bytes_eq xs ys ≡ false
bytes_apart xs ys apart = elim (cases_Bool (bytes_eq xs ys)) [
  | inl same ↦ absurd (apart ((bytes_eq-Decides xs ys).0 same))
  | inr other ↦ other
]

look_up_of_bound : (bs : List (List ℕ × Object)) (name : List ℕ) (object : Object)
    → lookup (bytes_eq name) (bound bs name object) ≡ Some object
look_up_of_bound [] name object = rw ((bytes_eq-Decides name name).1 refl) refl
look_up_of_bound (b ∷ bs) name object = elim (cases_Bool (bytes_eq name b.0)) [
  | inl same ↦ rw same (rw same refl)
  | inr other ↦ rw other (rw other (look_up_of_bound bs name object))
]

look_up_of_other : (bs : List (List ℕ × Object)) (name : List ℕ) (object : Object) (other : List ℕ)
    → ¬ (other ≡ name) → lookup (bytes_eq other) (bound bs name object) ≡ lookup (bytes_eq other) bs
look_up_of_other [] name object other apart = rw (bytes_apart other name apart) refl
look_up_of_other (b ∷ bs) name object other apart = elim (cases_Bool (bytes_eq name b.0)) [
  | inl same ↦ rw same (rw (bytes_apart other b.0 (λ e. apart (e ∙ sym ((bytes_eq-Decides name b.0).0 same)))) refl)
  | inr differs ↦ rw differs (ap (λ (r : Option Object). cond (bytes_eq other b.0) (Some b.1) r) (look_up_of_other bs name object other apart))
]

-- a name that was bound stands for its object
pub object_of_bound : (bs : List (List ℕ × Object)) (name : List ℕ) (object : Object)
    → ¬ (name ≡ destination) → object_of (bound bs name object) name ≡ Some object
object_of_bound bs name object apart = rw (bytes_apart name destination apart) (look_up_of_bound bs name object)

-- and each other name for the object that it stood for before
pub object_of_other : (bs : List (List ℕ × Object)) (name : List ℕ) (object : Object) (other : List ℕ)
    → ¬ (other ≡ name) → object_of (bound bs name object) other ≡ object_of bs other
object_of_other bs name object other apart =
    ap (λ (r : Option Object). if bytes_eq other destination then Some (Node (record { 0 = 0 })) else r) (look_up_of_other bs name object other apart)

-- a name stands for an object exactly if it is bound
pub object_of-IsBound : (bs : List (List ℕ × Object)) (name : List ℕ) → IsSome (object_of bs name) ↔ IsBound bs name
object_of-IsBound bs name = elim (cases_Bool (bytes_eq name destination)) [
  | inl same ↦ rw same (λ _. inl ((bytes_eq-Decides name destination).0 same), λ _. refl)
  | inr differs ↦ rw differs (
    λ found. inr (Contains-keys_from_lookup (λ x y. (bytes_eq-Decides x y).0) name bs found),
    λ there. elim there [
      | inl same ↦ absurd (true_false (sym ((bytes_eq-Decides name destination).1 same) ∙ differs))
      | inr among ↦ IsSome-lookup_from_Contains nat_list_eq_equiv name bs among
    ],
  )
]
  where
    true_false : true ≡ false → ⊥
    true_false p = cc
