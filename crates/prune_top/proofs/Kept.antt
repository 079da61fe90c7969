-- The calls that are kept: of the list of a holder that is kept those that are heard, and of the list of startRendering none.
use Rattle.std.proofs.Common.{ℕ, ◌≡◌, ◌+◌, ◌<◌, List, [], ◌∷◌, map, filter, Bool, true, false, cond, ◌&&◌, ◌⊎◌, inl, inr, refl, sym, ◌∙◌, ap, subst, arith}
use Rattle.std.specs.Prelude.{◌==◌, if◌then◌else◌}
use Rattle.std.proofs.lemmas.Bool.{eqb-true, eq-eqb}
use Rattle.law_base.specs.Members.{IsIn}
use Rattle.law_base.proofs.Members.{IsIn-filter, IsIn-filter_from}
use Rattle.law_base.proofs.Tests.{not_true}
use Rattle.script_ast.specs.declared.call_list.Call.{Call}
use Rattle.script_ast.specs.WellFormed.{AreCallsAfter}
use Rattle.prune_script.specs.Pruned.{kept_calls, is_start, place_in, renumbered}
use Rattle.prune.proofs.Members.{same_truth, same_filter, filter-map, IsIn-map, map-IsIn}
use Rattle.prune_top.proofs.Lists.{is_among, among-IsIn, IsIn-among}
use Rattle.prune_top.proofs.Places.{ordinals, placed, one_call, place_none, one_place}

-- the list that a call holds
abbrev pub list_of : ℕ → List Call → List Call
list_of holder calls = filter (λ (call : Call). call.holder == holder) calls

pub not_eqb : (a b : ℕ) → (a ≡ b → ⊥) → (a == b) ≡ false
not_eqb a b other = not_true (a == b) (λ e. other (eqb-true a b e))

module _ (heard : List ℕ) where
  abbrev pub is_heard : Call → Bool
  is_heard call = is_among call.ordinal heard

  -- the calls in whose lists calls are kept, after a call that is kept
  abbrev pub grown : List ℕ → Call → List ℕ
  grown holders call = if is_start call.op then holders else call.ordinal ∷ holders

  grown_still : (holders : List ℕ) (call : Call) (h : ℕ) → is_among h holders ≡ true → is_among h (grown holders call) ≡ true
  grown_still holders call h m = by_test (is_start call.op)
    where
      by_test : (b : Bool) → is_among h (if b then holders else call.ordinal ∷ holders) ≡ true
      by_test true = m
      by_test false = among-IsIn h (call.ordinal ∷ holders) (inr (IsIn-among h holders m))

  -- what is kept are calls of the list
  pub kept_there : (holders : List ℕ) (calls : List Call) (c : Call) → IsIn c (kept_calls heard holders calls) → IsIn c calls
  kept_there holders [] c h = absurd h
  kept_there holders (x ∷ xs) c h = by_test (is_among x.ordinal heard && is_among x.holder holders) (λ k. kept_there (grown holders x) xs c k) (λ k. kept_there holders xs c k) h
    where
      by_test : (b : Bool) → (IsIn c (kept_calls heard (grown holders x) xs) → IsIn c xs) → (IsIn c (kept_calls heard holders xs) → IsIn c xs)
          → IsIn c (cond b (x ∷ kept_calls heard (grown holders x) xs) (kept_calls heard holders xs)) → IsIn c (x ∷ xs)
      by_test true more same (inl e) = inl e
      by_test true more same (inr k) = inr (more k)
      by_test false more same k = inr (same k)

  -- the holder of a kept call is one of these, or kept itself
  pub holder_kept : (holders : List ℕ) (calls : List Call) (c : Call) → IsIn c (kept_calls heard holders calls) → IsIn c.holder holders ⊎ IsIn c.holder (ordinals (kept_calls heard holders calls))
  holder_kept holders [] c h = absurd h
  holder_kept holders (x ∷ xs) c h = by_test (is_among x.ordinal heard) (is_among x.holder holders) refl (λ k. holder_kept (grown holders x) xs c k) (λ k. holder_kept holders xs c k) h
    where
      by_start : (b : Bool) → IsIn c.holder (if b then holders else x.ordinal ∷ holders) → IsIn c.holder holders ⊎ (c.holder ≡ x.ordinal)
      by_start true k = inl k
      by_start false (inl e) = inr e
      by_start false (inr k) = inl k

      by_test : (a b : Bool) → is_among x.holder holders ≡ b
          → (IsIn c (kept_calls heard (grown holders x) xs) → IsIn c.holder (grown holders x) ⊎ IsIn c.holder (ordinals (kept_calls heard (grown holders x) xs)))
          → (IsIn c (kept_calls heard holders xs) → IsIn c.holder holders ⊎ IsIn c.holder (ordinals (kept_calls heard holders xs)))
          → IsIn c (cond (a && b) (x ∷ kept_calls heard (grown holders x) xs) (kept_calls heard holders xs))
          → IsIn c.holder holders ⊎ IsIn c.holder (ordinals (cond (a && b) (x ∷ kept_calls heard (grown holders x) xs) (kept_calls heard holders xs)))
      by_test true true f more same (inl e) = inl (subst (λ (y : Call). IsIn y.holder holders) (sym e) (IsIn-among x.holder holders f))
      by_test true true f more same (inr k) = elim (more k) [
        | inl m ↦ elim (by_start (is_start x.op) m) [ inl l ↦ inl l | inr e ↦ inr (inl e) ]
        | inr m ↦ inr (inr m)
      ]
      by_test true false f more same k = same k
      by_test false b f more same k = same k

  -- the list of a holder that is kept
  list_kept : (holders : List ℕ) (calls : List Call) (h : ℕ) → is_among h holders ≡ true → list_of h (kept_calls heard holders calls) ≡ filter is_heard (list_of h calls)
  list_kept holders [] h m = refl
  list_kept holders (x ∷ xs) h m =
      by_test (is_among x.ordinal heard) (is_among x.holder holders) (x.holder == h) refl refl
      (λ e. subst (λ n. is_among n holders ≡ true) (sym (eqb-true x.holder h e)) m)
      (list_kept (grown holders x) xs h (grown_still holders x h m)) (list_kept holders xs h m)
    where
      by_test : (a b d : Bool) → is_among x.ordinal heard ≡ a → (x.holder == h) ≡ d → ((x.holder == h) ≡ true → b ≡ true)
          → list_of h (kept_calls heard (grown holders x) xs) ≡ filter is_heard (list_of h xs) → list_of h (kept_calls heard holders xs) ≡ filter is_heard (list_of h xs)
          → list_of h (cond (a && b) (x ∷ kept_calls heard (grown holders x) xs) (kept_calls heard holders xs)) ≡ filter is_heard (cond d (x ∷ list_of h xs) (list_of h xs))
      by_test true true true e f both more same = rw (e, f) (ap (λ ys. x ∷ ys) more)
      by_test true true false e f both more same = rw f more
      by_test true false true e f both more same = absurd (let t = both f in cc)
      by_test true false false e f both more same = same
      by_test false b true e f both more same = rw e same
      by_test false b false e f both more same = same

  -- the list of a call that is kept, and does not start the rendering
  list_of_kept : (n : ℕ) (holders : List ℕ) (calls : List Call) → AreCallsAfter n calls → (c : Call) → IsIn c (kept_calls heard holders calls) → is_start c.op ≡ false
      → list_of c.ordinal (kept_calls heard holders calls) ≡ filter is_heard (list_of c.ordinal calls)
  list_of_kept n holders [] after c h other = absurd h
  list_of_kept n holders (x ∷ xs) after c h other = by_test (is_among x.ordinal heard && is_among x.holder holders) (λ k. list_of_kept (n + 1) (grown holders x) xs after.1 c k other) (λ k. list_of_kept (n + 1) holders xs after.1 c k other) h
    where
      -- the first call is not in that list, since the call comes with it or after it
      first : IsIn c (x ∷ xs) → (x.holder == c.ordinal) ≡ false
      first k = not_eqb x.holder c.ordinal (λ e. let low = (placed n (x ∷ xs) after x (inl refl)).held in let at = after.0.0 in let high = (placed n (x ∷ xs) after c k).later in absurd (omega (arith, e, low, at, high)))

      by_test : (b : Bool) → (IsIn c (kept_calls heard (grown holders x) xs) → list_of c.ordinal (kept_calls heard (grown holders x) xs) ≡ filter is_heard (list_of c.ordinal xs))
          → (IsIn c (kept_calls heard holders xs) → list_of c.ordinal (kept_calls heard holders xs) ≡ filter is_heard (list_of c.ordinal xs))
          → IsIn c (cond b (x ∷ kept_calls heard (grown holders x) xs) (kept_calls heard holders xs))
          → list_of c.ordinal (cond b (x ∷ kept_calls heard (grown holders x) xs) (kept_calls heard holders xs)) ≡ filter is_heard (list_of c.ordinal (x ∷ xs))
      by_test true more same (inl e) =
          let own : is_among c.ordinal (grown holders x) ≡ true =
          subst (λ b. is_among c.ordinal (if b then holders else x.ordinal ∷ holders) ≡ true) (sym (ap (λ (y : Call). is_start y.op) (sym e) ∙ other))
          (among-IsIn c.ordinal (x.ordinal ∷ holders) (inl (ap (λ (y : Call). y.ordinal) e)))
          in rw (first (inl e)) (list_kept (grown holders x) xs c.ordinal own)
      by_test true more same (inr k) = rw (first (inr (kept_there (grown holders x) xs c k))) (more k)
      by_test false more same k = rw (first (inr (kept_there holders xs c k))) (same k)

  -- no call is kept in the list of one that starts the rendering
  no_list : (holders : List ℕ) (calls : List Call) (s : ℕ) → is_among s holders ≡ false → ((c : Call) → IsIn c calls → c.ordinal ≡ s → is_start c.op ≡ true) → list_of s (kept_calls heard holders calls) ≡ []
  no_list holders [] s none starts = refl
  no_list holders (x ∷ xs) s none starts =
      by_test (is_among x.ordinal heard) (is_among x.holder holders) refl (no_list (grown holders x) xs s (not_grown (is_start x.op) refl) (λ c h. starts c (inr h))) (no_list holders xs s none (λ c h. starts c (inr h)))
    where
      not_grown : (b : Bool) → is_start x.op ≡ b → is_among s (if b then holders else x.ordinal ∷ holders) ≡ false
      not_grown true e = none
      not_grown false e = rw (not_eqb x.ordinal s (λ is. let t = starts x (inl refl) is in absurd cc)) none

      by_test : (a b : Bool) → is_among x.holder holders ≡ b → list_of s (kept_calls heard (grown holders x) xs) ≡ [] → list_of s (kept_calls heard holders xs) ≡ []
          → list_of s (cond (a && b) (x ∷ kept_calls heard (grown holders x) xs) (kept_calls heard holders xs)) ≡ []
      by_test true true e more same = rw (not_eqb x.holder s (λ is. let t : is_among s holders ≡ true = subst (λ k. is_among k holders ≡ true) is e in absurd cc)) more
      by_test true false e more same = same
      by_test false b e more same = same

-- ---- the pruned calls

module _ (heard : List ℕ) (calls : List Call) (after : AreCallsAfter 0 calls) where
  abbrev pub kept : List Call
  kept = kept_calls heard (0 ∷ []) calls

  abbrev pub place : ℕ → ℕ
  place = place_in kept

  -- 0, for the main list, or a kept call that does not start the rendering
  abbrev pub IsHolder : ℕ → Type 0
  IsHolder h = (h ≡ 0) ⊎ ((c : Call) × IsIn c kept × (c.ordinal ≡ h) × (is_start c.op ≡ false))

  -- a kept call that starts the rendering
  abbrev pub IsStarter : ℕ → Type 0
  IsStarter s = (c : Call) × IsIn c kept × (c.ordinal ≡ s) × (is_start c.op ≡ true)

  kept_placed : (c : Call) → IsIn c kept → 0 < c.ordinal
  kept_placed c h = (placed 0 calls after c (kept_there heard (0 ∷ []) calls c h)).later

  none_at_zero : IsIn 0 (ordinals kept) → ⊥
  none_at_zero h = let found = map-IsIn (λ (c : Call). c.ordinal) kept 0 h in let low = kept_placed found.0 found.1 in let is = found.2 in absurd (omega (arith, low, is))

  pub place_zero : place 0 ≡ 0
  place_zero = place_none kept 0 none_at_zero

  -- 0, or the ordinal of a kept call
  abbrev pub IsOrdinal : ℕ → Type 0
  IsOrdinal h = (h ≡ 0) ⊎ IsIn h (ordinals kept)

  pub one_ordinal : (a b : ℕ) → IsOrdinal a → IsOrdinal b → place a ≡ place b → a ≡ b
  one_ordinal a b (inr h) k same = one_place kept a b h same
  one_ordinal a b (inl e) (inr k) same = sym (one_place kept b a k (sym same))
  one_ordinal a b (inl e) (inl f) same = e ∙ sym f

  pub holder_ordinal : (c : Call) → IsIn c kept → IsOrdinal c.holder
  holder_ordinal c h = elim (holder_kept heard (0 ∷ []) calls c h) [ inl (inl e) ↦ inl e | inl (inr k) ↦ absurd k | inr k ↦ inr k ]

  -- the list that a call with an ordinal holds in the pruned script
  renumbered_list : (h : ℕ) → IsOrdinal h → list_of (place h) (map (renumbered kept) kept) ≡ map (renumbered kept) (list_of h kept)
  renumbered_list h is =
      filter-map (λ (c : Call). c.holder == place h) (renumbered kept) kept
      ∙ ap (map (renumbered kept)) (same_filter (λ (c : Call). place c.holder == place h) (λ (c : Call). c.holder == h) kept (λ c k.
      same_truth (place c.holder == place h) (c.holder == h)
      (λ e. eq-eqb c.holder h (one_ordinal c.holder h (holder_ordinal c k) is (eqb-true (place c.holder) (place h) e)))
      (λ e. eq-eqb (place c.holder) (place h) (ap place (eqb-true c.holder h e)))))

  -- of the list of a holder those that are heard
  kept_list : (h : ℕ) → IsHolder h → list_of h kept ≡ filter (is_heard heard) (list_of h calls)
  kept_list h (inl e) = list_kept heard (0 ∷ []) calls h (among-IsIn h (0 ∷ []) (inl e))
  kept_list h (inr (c, k, e, other)) = subst (λ n. list_of n kept ≡ filter (is_heard heard) (list_of n calls)) e (list_of_kept heard 0 (0 ∷ []) calls after c k other)

  holder_is : (h : ℕ) → IsHolder h → IsOrdinal h
  holder_is h (inl e) = inl e
  holder_is h (inr (c, k, e, other)) = inr (subst (λ n. IsIn n (ordinals kept)) e (IsIn-map (λ (x : Call). x.ordinal) kept c k))

  pub list_of_holder : (h : ℕ) → IsHolder h → list_of (place h) (map (renumbered kept) kept) ≡ map (renumbered kept) (filter (is_heard heard) (list_of h calls))
  list_of_holder h is = renumbered_list h (holder_is h is) ∙ ap (map (renumbered kept)) (kept_list h is)

  -- and of that of startRendering none
  pub list_of_starter : (s : ℕ) → IsStarter s → list_of (place s) (map (renumbered kept) kept) ≡ []
  list_of_starter s (c, k, e, starts) =
      let none : list_of s kept ≡ [] = no_list heard (0 ∷ []) calls s (not_true (is_among s (0 ∷ [])) (λ t. elim (IsIn-among s (0 ∷ []) t) [
        | inl none ↦ let low = kept_placed c k in absurd (omega (arith, low, none, e))
        | inr m ↦ absurd m
      ]))
      (λ d h same. ap (λ (y : Call). is_start y.op) (one_call 0 calls after d c h (kept_there heard (0 ∷ []) calls c k) (same ∙ sym e)) ∙ starts) in
      renumbered_list s (inr (subst (λ n. IsIn n (ordinals kept)) e (IsIn-map (λ (x : Call). x.ordinal) kept c k))) ∙ ap (map (renumbered kept)) none

  -- a call that is heard in the list of a holder is kept
  pub kept_in_list : (h : ℕ) → IsHolder h → (c : Call) → IsIn c (list_of h calls) → is_heard heard c ≡ true → IsIn c kept
  kept_in_list h is c k e =
      (IsIn-filter (λ (x : Call). x.holder == h) kept c (subst (λ ys. IsIn c ys) (sym (kept_list h is)) (IsIn-filter_from (is_heard heard) (list_of h calls) c k e))).0
