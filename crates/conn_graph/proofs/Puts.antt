-- A connection put in behind the others of its source.
use Rattle.std.proofs.Common.{ℕ, suc, ◌≡◌, ◌<◌, ◌≤◌, length, List, [], ◌∷◌, ◌++◌, filter, Bool, true, false, cond, ◌⊎◌, inl, inr, refl, sym, ◌∙◌, ap, ap₂, arith}
use Rattle.std.specs.Prelude.{if◌then◌else◌, nat_lt, nat_le}
use Rattle.std.proofs.lemmas.Bool.Decides.{nat_tests}
use Rattle.law_base.specs.Members.{IsIn, AreDistinct}
use Rattle.conn_graph.specs.declared.edges.Edge.{Edge}
use Rattle.conn_graph.specs.Graph.{with_edge, AreFrom}

-- before the first connection of a later node
abbrev pub put : List Edge → Edge → List Edge
put [] e = e ∷ []
put (x ∷ xs) e = if nat_lt e.from.0 x.from.0 then e ∷ x ∷ xs else x ∷ put xs e

-- where all connections are of later nodes, none is before the new one
none_before : (low n : ℕ) (xs : List Edge) → n < low → AreFrom low xs → (filter (λ x. nat_le x.from.0 n) xs ≡ []) × (filter (λ x. nat_lt n x.from.0) xs ≡ xs)
none_before low n [] l h = (refl, refl)
none_before low n (x ∷ xs) l h =
    let later : n < x.from.0 = let k = h.0 in omega arith in
    let rest = none_before x.from.0 n xs later h.1 in
    let no : nat_le x.from.0 n ≡ false = grind (arith, nat_tests) in
    let yes : nat_lt n x.from.0 ≡ true = grind (arith, nat_tests) in (
      (ap (λ b. cond b (x ∷ filter (λ y. nat_le y.from.0 n) xs) (filter (λ y. nat_le y.from.0 n) xs)) no ∙ rest.0),
      (ap (λ b. cond b (x ∷ filter (λ y. nat_lt n y.from.0) xs) (filter (λ y. nat_lt n y.from.0) xs)) yes ∙ ap (λ ys. x ∷ ys) rest.1),
    )

pub put_is : (low : ℕ) (xs : List Edge) (e : Edge) → AreFrom low xs → put xs e ≡ with_edge xs e
put_is low [] e h = refl
put_is low (x ∷ xs) e h = by_test (nat_lt e.from.0 x.from.0) refl (put_is x.from.0 xs e h.1)
  where
    by_test : (b : Bool) → nat_lt e.from.0 x.from.0 ≡ b → put xs e ≡ with_edge xs e → (if b then e ∷ x ∷ xs else x ∷ put xs e) ≡ with_edge (x ∷ xs) e
    by_test true t below =
        let later : e.from.0 < x.from.0 = grind (arith, nat_tests) in
        let all = none_before x.from.0 e.from.0 (x ∷ xs) later (omega arith, h.1) in
        sym (ap₂ (λ front back. front ++ e ∷ back) all.0 all.1)
    by_test false t below =
        let stays : nat_le x.from.0 e.from.0 ≡ true = grind (arith, nat_tests) in
        ap (λ ys. x ∷ ys) below
        ∙ sym (ap₂ (λ b c. cond b (x ∷ filter (λ y. nat_le y.from.0 e.from.0) xs) (filter (λ y. nat_le y.from.0 e.from.0) xs) ++ e ∷ cond c (x ∷ filter (λ y. nat_lt e.from.0 y.from.0) xs) (filter (λ y. nat_lt e.from.0 y.from.0) xs)) stays t)

pub IsIn-put : (xs : List Edge) (e y : Edge) → IsIn y (put xs e) → (y ≡ e) ⊎ IsIn y xs
IsIn-put [] e y (inl same) = inl same
IsIn-put [] e y (inr h) = absurd h
IsIn-put (x ∷ xs) e y h = by_test (nat_lt e.from.0 x.from.0) (IsIn-put xs e y) h
  where
    by_test : (b : Bool) → (IsIn y (put xs e) → (y ≡ e) ⊎ IsIn y xs) → IsIn y (if b then e ∷ x ∷ xs else x ∷ put xs e) → (y ≡ e) ⊎ IsIn y (x ∷ xs)
    by_test true below (inl same) = inl same
    by_test true below (inr k) = inr k
    by_test false below (inl same) = inr (inl same)
    by_test false below (inr k) = elim (below k) [ inl same ↦ inl same | inr m ↦ inr (inr m) ]

pub AreDistinct-put : (xs : List Edge) (e : Edge) → (IsIn e xs → ⊥) → AreDistinct xs → AreDistinct (put xs e)
AreDistinct-put [] e new h = ((λ k. k), tt)
AreDistinct-put (x ∷ xs) e new h = by_test (nat_lt e.from.0 x.from.0) (AreDistinct-put xs e (λ k. new (inr k)) h.1)
  where
    by_test : (b : Bool) → AreDistinct (put xs e) → AreDistinct (if b then e ∷ x ∷ xs else x ∷ put xs e)
    by_test true below = (new, h)
    by_test false below = (
      (λ k. elim (IsIn-put xs e x k) [ inl same ↦ new (inl (sym same)) | inr m ↦ h.0 m ]),
      below,
    )

pub AreFrom-put : (low : ℕ) (xs : List Edge) (e : Edge) → low ≤ e.from.0 → AreFrom low xs → AreFrom low (put xs e)
AreFrom-put low [] e l h = (l, tt)
AreFrom-put low (x ∷ xs) e l h = by_test (nat_lt e.from.0 x.from.0) refl (λ k. AreFrom-put x.from.0 xs e k h.1)
  where
    by_test : (b : Bool) → nat_lt e.from.0 x.from.0 ≡ b → (x.from.0 ≤ e.from.0 → AreFrom x.from.0 (put xs e)) → AreFrom low (if b then e ∷ x ∷ xs else x ∷ put xs e)
    by_test true t below = (l, ((grind (arith, nat_tests)), h.1))
    by_test false t below = (h.0, below (grind (arith, nat_tests)))

pub length-put : (xs : List Edge) (e : Edge) → length (put xs e) ≡ suc (length xs)
length-put [] e = refl
length-put (x ∷ xs) e = by_test (nat_lt e.from.0 x.from.0) (length-put xs e)
  where
    by_test : (b : Bool) → length (put xs e) ≡ suc (length xs) → length (if b then e ∷ x ∷ xs else x ∷ put xs e) ≡ suc (suc (length xs))
    by_test true below = refl
    by_test false below = ap suc below
