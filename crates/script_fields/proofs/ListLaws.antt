-- The items of a list: their numbers, and the values that they are.
use Rattle.std.proofs.Common.{◌≡◌, ◌<◌, ◌+◌, ℕ, List, [], ◌∷◌, ◌++◌, length, take, get_or, refl, Bool, Option, ℤ}
use Rattle.std.specs.List.{list_all}
use Rattle.std.proofs.lemmas.List.{take_more}
use Rattle.json_tree.specs.View.{view, items_view}
use Rattle.json_tree.specs.declared.values.Value.{Value}
use Rattle.script_fields.specs.Fields.{fix_of, fixes_of}
use Rattle.script_fields.specs.Values.{whole, wholes}

-- what holds of every item's number
pub list_all_wholes : (p : Option ℤ → Bool) (list : List Value) → list_all p (wholes (items_view list)) ≡ list_all (λ v. p (whole (view v))) list
list_all_wholes p [] = refl
list_all_wholes p (v ∷ list) = rw (list_all_wholes p list) refl

pub fixes_of_append : (first second : List Value) → fixes_of (items_view (first ++ second)) ≡ fixes_of (items_view first) ++ fixes_of (items_view second)
unfolding fixes_of
fixes_of_append [] second = refl
fixes_of_append (v ∷ first) second = rw (fixes_of_append first second) refl

pub fixes_of_none : fixes_of (items_view []) ≡ []
unfolding fixes_of
fixes_of_none = refl

pub fixes_of_one : (v : Value) → fixes_of (items_view (v ∷ [])) ≡ fix_of (whole (view v)) ∷ []
unfolding fixes_of
fixes_of_one v = refl

-- the next value, after those of the items before it
pub fixes_of_next : (list : List Value) (i : ℕ) (v : Value) → i < length list → v ≡ get_or list i v
    → fixes_of (items_view (take (i + 1) list)) ≡ fixes_of (items_view (take i list)) ++ fix_of (whole (view v)) ∷ []
fixes_of_next list i v h is = rw (take_more list i v h, ← is, fixes_of_append (take i list) (v ∷ []), fixes_of_one v) refl
