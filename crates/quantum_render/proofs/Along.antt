-- What holds of each item of a list, found out one after another.
use Rattle.std.proofs.Common.{ℕ, suc, ◌≡◌, ◌+◌, ◌<◌, ◌≤◌, length, List, ◌∷◌, drop, slice_index_or, inl, inr, sym, subst, arith}
use Rattle.std.proofs.Math.ListN.{drop_of_length-le}
use Rattle.std.proofs.Math.Seq.{drop-cons}
use Rattle.law_base.specs.Members.{IsIn}

-- it holds of those up to a place: of all, if it holds of what is left
abbrev pub HoldsUpTo : {X : Type 0} → (X → Type 0) → List X → ℕ → Type 0
HoldsUpTo {X} P xs i = ((x : X) → IsIn x (drop i xs) → P x) → (x : X) → IsIn x xs → P x

pub holds_on : {X : Type 0} (P : X → Type 0) (xs : List X) (i : ℕ) (d : X) → i < length xs → P (slice_index_or xs i d) → HoldsUpTo P xs i → HoldsUpTo P xs (i + 1)
holds_on {X} P xs i d l here before rest = before (λ x is. this_or_rest x (subst (IsIn x) (drop-cons xs i d l) is))
  where
    this_or_rest : (x : X) → IsIn x (slice_index_or xs i d ∷ drop (suc i) xs) → P x
    this_or_rest x (inl same) = subst P (sym same) here
    this_or_rest x (inr later) = rest x (subst (λ k. IsIn x (drop k xs)) (let e : suc i ≡ i + 1 = omega arith in e) later)

pub holds_of_all : {X : Type 0} (P : X → Type 0) (xs : List X) (i : ℕ) → length xs ≤ i → HoldsUpTo P xs i → (x : X) → IsIn x xs → P x
holds_of_all P xs i past before = before (λ x is. absurd (subst (IsIn x) (drop_of_length-le xs past) is))
