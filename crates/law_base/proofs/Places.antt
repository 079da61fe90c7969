-- Lists of which one item becomes another one, or which one more item joins.
use Rattle.std.proofs.Common.{ℕ, zero, suc, ◌≡◌, ◌+◌, ◌<◌, ◌≤◌, ◌++◌, length, take, List, [], ◌∷◌, slice_index_or, slice_set, Option, Some, None, ◌⊎◌, inl, inr, refl, sym, ◌∙◌, ap, ap₂, arith, subst}
use Rattle.std.specs.Prelude.{IfSome, Result, Ok, Err, OnOk}
use Rattle.std.proofs.Math.Seq.{take-append_seam}
use Rattle.std.proofs.lemmas.Bool.{cases_lt}
use Rattle.std.proofs.lemmas.List.{get_or-set_same, get_or-set_other, get_or_append_left, get_or_past}

pub this_or_other : (n node : ℕ) → (n ≡ node) ⊎ (n ≡ node → ⊥)
this_or_other zero zero = inl refl
this_or_other zero (suc node) = inr (λ e. absurd (omega arith))
this_or_other (suc n) zero = inr (λ e. absurd (omega arith))
this_or_other (suc n) (suc node) = elim (this_or_other n node) [ inl e ↦ inl (ap suc e) | inr other ↦ inr (λ e. other (omega arith)) ]

-- a list of which one item is another one
module _ {X : Type 0} (none : X) (now : List X) (node : ℕ) (new : X) (within : node < length now) where
  pub one_related : (R : X → X → Type 0) → ((f g h : X) → R f g → R g h → R f h) → (old : List X) → ((n : ℕ) → R (slice_index_or old n none) (slice_index_or now n none)) → R (slice_index_or now node none) new
      → (n : ℕ) → R (slice_index_or old n none) (slice_index_or (slice_set now node new) n none)
  one_related R after old each own n = elim (this_or_other n node) [
    | inl here ↦
        subst (λ k. R (slice_index_or old k none) (slice_index_or (slice_set now node new) k none)) (sym here)
        (subst (R (slice_index_or old node none)) (sym (get_or-set_same now node new none within)) (after _ _ _ (each node) own))
    | inr other ↦ subst (R (slice_index_or old n none)) (sym (get_or-set_other now node n new none other)) (each n)
  ]

module _ {X : Type 0} (now : List (Option X)) (node : ℕ) (new : Option X) (within : node < length now) where
  pub one_more : (P : ℕ → X → Type 0) → ((n : ℕ) (f : X) → n < node → slice_index_or now n None ≡ Some f → P n f) → IfSome new (P node)
      → (n : ℕ) (f : X) → n < node + 1 → slice_index_or (slice_set now node new) n None ≡ Some f → P n f
  one_more P each own n f low is = elim (this_or_other n node) [
    | inl here ↦
        subst (λ k. P k f) (sym here)
        (subst (λ (o : Option X). IfSome o (P node)) (sym (get_or-set_same now node new None within) ∙ subst (λ k. slice_index_or (slice_set now node new) k None ≡ Some f) here is) own)
    | inr other ↦ each n f (let l : n < node = before n low other in l) (sym (get_or-set_other now node n new None other) ∙ is)
  ]
    where
      before : (n : ℕ) → n < node + 1 → (n ≡ node → ⊥) → n < node
      before n low other = elim (cases n low) [ inl l ↦ l | inr e ↦ absurd (other e) ]
        where
          cases : (n : ℕ) → n < node + 1 → (n < node) ⊎ (n ≡ node)
          cases n low = grind arith

-- one more item behind those of a list
pub last_item : {X : Type 0} (xs : List X) (x d : X) → slice_index_or (xs ++ x ∷ []) (length xs) d ≡ x
last_item [] x d = refl
last_item (y ∷ ys) x d = last_item ys x d

heads : {X : Type 0} (a b : X) (zs bs : List X) → a ∷ zs ≡ b ∷ bs → a ≡ b
heads a b zs bs e = cc

tails : {X : Type 0} (a b : X) (zs bs : List X) → a ∷ zs ≡ b ∷ bs → zs ≡ bs
tails a b zs bs e = cc

pub front_kept : {X : Type 0} (old xs : List X) (x : X) → length old ≤ length xs → take (length old) xs ≡ old → take (length old) (xs ++ x ∷ []) ≡ old
front_kept [] xs x l is = refl
front_kept (o ∷ os) [] x l is = absurd (omega arith)
front_kept (o ∷ os) (y ∷ ys) x l is = ap₂ (λ a zs. a ∷ zs) (heads y o (take (length os) ys) os is) (front_kept os ys x (omega arith) (tails y o (take (length os) ys) os is))

-- an item of a list with one more
pub more_item : {X : Type 0} (xs : List X) (x d : X) (n : ℕ) (P : X → Type 0) → n < length xs + 1 → (n < length xs → P (slice_index_or xs n d)) → (n ≡ length xs → P x) → P (slice_index_or (xs ++ x ∷ []) n d)
more_item xs x d n P low before last = elim (this_or_other n (length xs)) [
  | inl here ↦ subst (λ k. P (slice_index_or (xs ++ x ∷ []) k d)) (sym here) (subst P (sym (last_item xs x d)) (last here))
  | inr other ↦
      let l : n < length xs = below n (length xs) low other in
      subst P (sym (get_or_append_left xs (x ∷ []) d n l)) (before l)
]
  where
    below : (n m : ℕ) → n < m + 1 → (n ≡ m → ⊥) → n < m
    below n m low other = elim (cases n m low) [ inl l ↦ l | inr e ↦ absurd (other e) ]
      where
        cases : (n m : ℕ) → n < m + 1 → (n < m) ⊎ (n ≡ m)
        cases n m low = grind arith

-- what is there, is at a place of the list
pub there_low : {X : Type 0} (xs : List (Option X)) (n : ℕ) (f : X) → slice_index_or xs n None ≡ Some f → n < length xs
there_low xs n f is = elim (cases_lt n (length xs)) [
  | inl low ↦ low
  | inr past ↦ let none : slice_index_or xs n None ≡ None = get_or_past xs n None past in absurd (let e = sym none ∙ is in cc)
]

-- what follows where a call answers Ok
pub on_ok : {E A B : Type 0} (r : Result (Unit {0}) E) → (A → B) → OnOk r A → OnOk r B
on_ok (Ok v) f a = f a
on_ok (Err e) f a = a

-- a list that was written over as a whole
pub rewritten : {X : Type 0} (n : ℕ) (new rest : List X) → length new ≡ n → take n (new ++ rest) ≡ new
rewritten n new rest e = subst (λ k. take k (new ++ rest) ≡ new) e (take-append_seam new rest)
