-- Linked cells: what joins, parts and relinks them.
use Rattle.std.proofs.Common.{ℕ, ◌≡◌, length, [], ◌∷◌, ◌++◌, Option, None, Some, inl, inr, refl, sym, ◌∙◌, ap, subst}
use Rattle.law_base.specs.Members.{IsIn, AreDistinct}
use Rattle.conn_graph.specs.declared.cells.Links.{Links}
use Rattle.conn_graph.specs.declared.edges.Edge.{Edge}
use Rattle.conn_graph.specs.Walks.{Walk}
use Rattle.conn_graph.specs.Lists.{keys, first_of, last_of, IsLinked, along, step_then}

-- ---- keys of walks

pub key_in : (ws : Walk) (s : ℕ × Edge) → IsIn s ws → IsIn s.0 (keys ws)
key_in [] s h = absurd h
key_in (w ∷ ws) s (inl e) = inl (ap (λ t. t.0) e)
key_in (w ∷ ws) s (inr h) = inr (key_in ws s h)

pub last_in : (before : Option ℕ) (s : ℕ × Edge) (ws : Walk) (k : ℕ) → last_of before (s ∷ ws) ≡ Some k → IsIn k (keys (s ∷ ws))
last_in before s [] k e = inl (let same : Some s.0 ≡ Some k = e in cc)
last_in before s (w ∷ ws) k e = inr (last_in (Some s.0) w ws k e)

pub first_in : (ws : Walk) (k : ℕ) → first_of ws None ≡ Some k → IsIn k (keys ws)
first_in [] k e = absurd (let no : None ≡ Some k = e in cc)
first_in (s ∷ ws) k e = inl (let same : Some s.0 ≡ Some k = e in cc)

pub first_append : (xs ys : Walk) (behind : Option ℕ) → first_of (xs ++ ys) behind ≡ first_of xs (first_of ys behind)
first_append [] ys behind = refl
first_append (x ∷ xs) ys behind = refl

pub last_append : (before : Option ℕ) (xs ys : Walk) → last_of before (xs ++ ys) ≡ last_of (last_of before xs) ys
last_append before [] ys = refl
last_append before (x ∷ xs) ys = last_append (Some x.0) xs ys

-- ---- a list of distinct keys in two parts

pub key_first : (xs ys : Walk) (k : ℕ) → IsIn k (keys xs) → IsIn k (keys (xs ++ ys))
key_first [] ys k h = absurd h
key_first (x ∷ xs) ys k (inl e) = inl e
key_first (x ∷ xs) ys k (inr h) = inr (key_first xs ys k h)

pub key_second : (xs ys : Walk) (k : ℕ) → IsIn k (keys ys) → IsIn k (keys (xs ++ ys))
key_second [] ys k h = h
key_second (x ∷ xs) ys k h = inr (key_second xs ys k h)

in_either : (xs ys : Walk) (k : ℕ) (P : Type 0) → (IsIn k (keys xs) → P) → (IsIn k (keys ys) → P) → IsIn k (keys (xs ++ ys)) → P
in_either [] ys k P first second h = second h
in_either (x ∷ xs) ys k P first second (inl e) = first (inl e)
in_either (x ∷ xs) ys k P first second (inr h) = in_either xs ys k P (λ m. first (inr m)) second h

pub distinct_first : (xs ys : Walk) → AreDistinct (keys (xs ++ ys)) → AreDistinct (keys xs)
distinct_first [] ys h = tt
distinct_first (x ∷ xs) ys h = ((λ m. h.0 (key_first xs ys x.0 m)), distinct_first xs ys h.1)

pub distinct_second : (xs ys : Walk) → AreDistinct (keys (xs ++ ys)) → AreDistinct (keys ys)
distinct_second [] ys h = h
distinct_second (x ∷ xs) ys h = distinct_second xs ys h.1

pub apart : (xs ys : Walk) (k : ℕ) → AreDistinct (keys (xs ++ ys)) → IsIn k (keys xs) → IsIn k (keys ys) → ⊥
apart [] ys k h a b = absurd a
apart (x ∷ xs) ys k h (inl e) b = h.0 (key_second xs ys x.0 (subst (λ j. IsIn j (keys ys)) e b))
apart (x ∷ xs) ys k h (inr a) b = apart xs ys k h.1 a b

pub distinct_without : (xs : Walk) (s : ℕ × Edge) (ys : Walk) → AreDistinct (keys (xs ++ s ∷ ys)) → AreDistinct (keys (xs ++ ys))
distinct_without [] s ys h = h.1
distinct_without (x ∷ xs) s ys h = (
  (λ m. h.0 (in_either xs ys x.0 (IsIn x.0 (keys (xs ++ s ∷ ys))) (key_first xs (s ∷ ys) x.0) (λ k. key_second xs (s ∷ ys) x.0 (inr k)) m)),
  distinct_without xs s ys h.1,
)

pub distinct_with : (xs : Walk) (s : ℕ × Edge) → (IsIn s.0 (keys xs) → ⊥) → AreDistinct (keys xs) → AreDistinct (keys (xs ++ s ∷ []))
distinct_with [] s new h = ((λ k. k), tt)
distinct_with (x ∷ xs) s new h = (
  (λ m. in_either xs (s ∷ []) x.0 ⊥ h.0 (alone new) m),
  distinct_with xs s (λ k. new (inr k)) h.1,
)
  where
    alone : (IsIn s.0 (keys (x ∷ xs)) → ⊥) → IsIn x.0 (keys (s ∷ [])) → ⊥
    alone n (inl e) = n (inl (sym e))
    alone n (inr k) = k

-- ---- linked cells

pub joined : (at : ℕ → Option (Edge × Links)) (before behind : Option ℕ) (xs ys : Walk) → IsLinked at before xs (first_of ys behind) → IsLinked at (last_of before xs) ys behind → IsLinked at before (xs ++ ys) behind
joined at before behind [] ys h k = k
joined at before behind (x ∷ xs) ys h k = (
  h.0 ∙ ap (λ o. Some (x.1, record { before = before; behind = o })) (sym (first_append xs ys behind)),
  joined at (Some x.0) behind xs ys h.1 k,
)

pub parted : (at : ℕ → Option (Edge × Links)) (before behind : Option ℕ) (xs ys : Walk) → IsLinked at before (xs ++ ys) behind → IsLinked at before xs (first_of ys behind) × IsLinked at (last_of before xs) ys behind
parted at before behind [] ys h = (tt, h)
parted at before behind (x ∷ xs) ys h =
    let rest = parted at (Some x.0) behind xs ys h.1 in (
      (h.0 ∙ ap (λ o. Some (x.1, record { before = before; behind = o })) (first_append xs ys behind), rest.0),
      rest.1,
    )

-- cells that did not change stay linked
pub linked_still : (at at' : ℕ → Option (Edge × Links)) (before behind : Option ℕ) (xs : Walk) → ((k : ℕ) → IsIn k (keys xs) → at' k ≡ at k) → IsLinked at before xs behind → IsLinked at' before xs behind
linked_still at at' before behind [] same h = tt
linked_still at at' before behind (x ∷ xs) same h = (same x.0 (inl refl) ∙ h.0, linked_still at at' (Some x.0) behind xs (λ k m. same k (inr m)) h.1)

-- the last cell leads elsewhere
pub linked_on : (at at' : ℕ → Option (Edge × Links)) (before behind next : Option ℕ) (xs : Walk) → AreDistinct (keys xs)
    → ((k : ℕ) → IsIn k (keys xs) → (last_of None xs ≡ Some k → ⊥) → at' k ≡ at k)
    → ((k : ℕ) (e : Edge) (l : Links) → last_of None xs ≡ Some k → at k ≡ Some (e, l) → at' k ≡ Some (e, record l { behind = next }))
    → IsLinked at before xs behind → IsLinked at' before xs next
linked_on at at' before behind next [] once same last h = tt
linked_on at at' before behind next (x ∷ []) once same last h = (last x.0 x.1 (record { before = before; behind = behind }) refl h.0, tt)
linked_on at at' before behind next (x ∷ y ∷ ys) once same last h = (
  same x.0 (inl refl) (λ e. once.0 (last_in (Some x.0) y ys x.0 e)) ∙ h.0,
  linked_on at at' (Some x.0) behind next (y ∷ ys) once.1 (λ k m not_last. same k (inr m) not_last) last h.1,
)

-- the first cell leads back elsewhere
pub linked_back : (at at' : ℕ → Option (Edge × Links)) (before behind last : Option ℕ) (xs : Walk) → AreDistinct (keys xs)
    → ((k : ℕ) → IsIn k (keys xs) → (first_of xs None ≡ Some k → ⊥) → at' k ≡ at k)
    → ((k : ℕ) (e : Edge) (l : Links) → first_of xs None ≡ Some k → at k ≡ Some (e, l) → at' k ≡ Some (e, record l { before = last }))
    → IsLinked at before xs behind → IsLinked at' last xs behind
linked_back at at' before behind last [] once same first h = tt
linked_back at at' before behind last (x ∷ xs) once same first h = (
  first x.0 x.1 (record { before = before; behind = first_of xs behind }) refl h.0,
  linked_still at at' (Some x.0) behind xs (λ k m. same k (inr m) (λ e. once.0 (subst (λ j. IsIn j (keys xs)) (let is : Some x.0 ≡ Some k = e in cc) m))) h.1,
)

-- what stands at a key of linked cells
pub linked_at : (at : ℕ → Option (Edge × Links)) (before behind : Option ℕ) (xs : Walk) (s : ℕ × Edge) → IsLinked at before xs behind → IsIn s xs → (l : Links) × (at s.0 ≡ Some (s.1, l))
linked_at at before behind [] s h m = absurd m
linked_at at before behind (x ∷ xs) s h (inl e) = (record { before = before; behind = first_of xs behind }, subst (λ (t : ℕ × Edge). at t.0 ≡ Some (t.1, record { before = before; behind = first_of xs behind })) (sym e) h.0)
linked_at at before behind (x ∷ xs) s h (inr m) = linked_at at (Some x.0) behind xs s h.1 m

-- forward from the first of so many linked cells
pub along_linked : (at : ℕ → Option (Edge × Links)) (before : Option ℕ) (xs : Walk) → IsLinked at before xs None → along at (length xs) (first_of xs None) ≡ xs
along_linked at before [] h = refl
along_linked at before (x ∷ xs) h = ap (step_then (along at (length xs)) x.0) h.0 ∙ ap (λ ys. x ∷ ys) (along_linked at (Some x.0) xs h.1)

pub last_in_all : (ws : Walk) (k : ℕ) → last_of None ws ≡ Some k → IsIn k (keys ws)
last_in_all [] k e = absurd (let no : None ≡ Some k = e in cc)
last_in_all (w ∷ ws) k e = last_in None w ws k e

pub step_of_key : (ws : Walk) (k : ℕ) → IsIn k (keys ws) → (s : ℕ × Edge) × IsIn s ws × (k ≡ s.0)
step_of_key [] k h = absurd h
step_of_key (w ∷ ws) k (inl e) = (w, inl refl, e)
step_of_key (w ∷ ws) k (inr h) = let r = step_of_key ws k h in (r.0, inr r.1, r.2)

-- a step of a walk parts it
pub split_at : (ws : Walk) (s : ℕ × Edge) → IsIn s ws → (front : Walk) × (back : Walk) × (ws ≡ front ++ s ∷ back)
split_at [] s h = absurd h
split_at (w ∷ ws) s (inl e) = ([], ws, ap (λ t. t ∷ ws) (sym e))
split_at (w ∷ ws) s (inr h) = let r = split_at ws s h in (w ∷ r.0, r.1, ap (λ xs. w ∷ xs) r.2)
