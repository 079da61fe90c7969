-- Lists without doubles, and numbers in a list.
use Rattle.std.proofs.Common.{ℕ, ◌≡◌, List, [], ◌∷◌, ◌++◌, Bool, true, inl, inr, refl, subst}
use Rattle.std.specs.Prelude.{◌==◌}
use Rattle.std.specs.List.{list_any}
use Rattle.std.proofs.lemmas.Bool.{eqb-true, eq-eqb}
use Rattle.law_base.specs.Members.{IsIn, AreDistinct}
use Rattle.law_base.proofs.Members.{list_any-IsIn, IsIn-list_any, IsIn-append, IsIn-append_first, IsIn-append_second}

-- of two lists end to end, without doubles
pub AreDistinct-append : {X : Type 0} (xs ys : List X) → AreDistinct (xs ++ ys) → AreDistinct xs × AreDistinct ys × ((x : X) → IsIn x xs → IsIn x ys → ⊥)
AreDistinct-append [] ys d = (tt, d, λ x h k. absurd h)
AreDistinct-append (x ∷ xs) ys d = let rest = AreDistinct-append xs ys d.1 in (
  ((λ h. d.0 (IsIn-append_first xs ys x h)), rest.0),
  rest.1,
  (λ y h k. elim h [ inl e ↦ d.0 (IsIn-append_second xs ys x (subst (λ z. IsIn z ys) e k)) | inr l ↦ rest.2 y l k ]),
)

pub append-AreDistinct : {X : Type 0} (xs ys : List X) → AreDistinct xs → AreDistinct ys → ((x : X) → IsIn x xs → IsIn x ys → ⊥) → AreDistinct (xs ++ ys)
append-AreDistinct [] ys d e apart = e
append-AreDistinct (x ∷ xs) ys d e apart = (
  (λ h. elim (IsIn-append xs ys x h) [ inl k ↦ d.0 k | inr k ↦ apart x (inl refl) k ]),
  append-AreDistinct xs ys d.1 e (λ y h k. apart y (inr h) k),
)

-- ---- numbers in a list

-- whether a number stands in a list
abbrev pub is_among : ℕ → List ℕ → Bool
is_among n ns = list_any (λ m. m == n) ns

pub among-IsIn : (n : ℕ) (ns : List ℕ) → IsIn n ns → is_among n ns ≡ true
among-IsIn n ns h = list_any-IsIn (λ m. m == n) ns n h (eq-eqb n n refl)

pub IsIn-among : (n : ℕ) (ns : List ℕ) → is_among n ns ≡ true → IsIn n ns
IsIn-among n ns h = let found = IsIn-list_any (λ m. m == n) ns h in subst (λ k. IsIn k ns) (eqb-true found.0 n found.2) found.1
