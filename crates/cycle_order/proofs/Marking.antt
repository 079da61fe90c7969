-- Marking vertices one after the other.
use Rattle.std.proofs.Common.{ℕ, zero, suc, ◌≡◌, ◌+◌, ◌<◌, length, List, [], ◌∷◌, ◌++◌, set, get_or, drop, Bool, true, false, not, ◌⊎◌, inl, inr, refl, sym, ◌∙◌, arith, subst, filter}
use Rattle.std.proofs.lemmas.Bool.{cases_eq}
use Rattle.std.proofs.lemmas.List.{get_or-set_same, get_or-set_other, length_push, drop_more, append-nil, append_assoc}
use Rattle.law_base.specs.Members.{IsIn}
use Rattle.law_base.proofs.Members.{IsIn-append, IsIn-append_first, IsIn-append_second}
use Rattle.law_base.proofs.Tests.{not_true}
use Rattle.cycle_order.specs.Reach.{is_marked, IsMarking}

pub marked-set : (marks : List Bool) (v u : ℕ) → v < length marks → (u ≡ v) ⊎ (is_marked (set marks v true) u ≡ is_marked marks u)
marked-set marks v u l = elim (cases_eq u v) [ inl e ↦ inl e | inr ne ↦ inr (get_or-set_other marks v u true false ne) ]

-- one unmarked vertex fewer
unmarked-set : (marks : List Bool) (v : ℕ) → v < length marks → is_marked marks v ≡ false → length (filter not (set marks v true)) + 1 ≡ length (filter not marks)
unmarked-set [] v l e = absurd (omega arith)
unmarked-set (true ∷ ms) zero l e = absurd cc
unmarked-set (false ∷ ms) zero l e = omega arith
unmarked-set (true ∷ ms) (suc v) l e = unmarked-set ms v (omega arith) e
unmarked-set (false ∷ ms) (suc v) l e = let k = unmarked-set ms v (omega arith) e in omega arith

pub marking_none : (marks : List Bool) (waiting : List ℕ) → IsMarking [] marks waiting marks waiting
marking_none marks waiting = record {
  targets = λ v h. absurd h;
  kept = λ v m. m;
  fresh = λ v m. inl m;
  from = λ v h. inl h;
  more = [];
  goes_on = sym (append-nil waiting);
  number = refl;
}

pub marking_seen : (v : ℕ) (vs : List ℕ) (marks : List Bool) (waiting : List ℕ) (marks' : List Bool) (waiting' : List ℕ)
    → is_marked marks v ≡ true → IsMarking vs marks waiting marks' waiting' → IsMarking (v ∷ vs) marks waiting marks' waiting'
marking_seen v vs marks waiting marks' waiting' seen r = record {
  targets = λ u h. elim h [ inl e ↦ r.kept u (subst (λ x. is_marked marks x ≡ true) (sym e) seen) | inr k ↦ r.targets u k ];
  kept = r.kept;
  fresh = r.fresh;
  from = λ u h. elim (r.from u h) [ inl k ↦ inl k | inr k ↦ inr (inr k.0, k.1) ];
  more = r.more;
  goes_on = r.goes_on;
  number = r.number;
}

pub marking_fresh : (v : ℕ) (vs : List ℕ) (marks : List Bool) (waiting : List ℕ) (marks' : List Bool) (waiting' : List ℕ)
    → v < length marks → is_marked marks v ≡ false → IsMarking vs (set marks v true) (waiting ++ v ∷ []) marks' waiting' → IsMarking (v ∷ vs) marks waiting marks' waiting'
marking_fresh v vs marks waiting marks' waiting' l new r = record {
  targets = λ u h. elim h [ inl e ↦ r.kept u (subst (λ x. is_marked (set marks v true) x ≡ true) (sym e) here) | inr k ↦ r.targets u k ];
  kept = λ u m. r.kept u (before u m (marked-set marks v u l));
  fresh = λ u m. elim (r.fresh u m) [ inl k ↦ waits u k (marked-set marks v u l) | inr k ↦ inr k ];
  from = λ u h. elim (r.from u h) [
    | inl k ↦ elim (IsIn-append waiting (v ∷ []) u k) [ inl k ↦ inl k | inr k ↦ elim k [ inl e ↦ inr (inl e, subst (λ x. is_marked marks x ≡ false) (sym e) new) | inr k ↦ absurd k ] ]
    | inr k ↦ inr (inr k.0, not_before u k.1)
  ];
  more = v ∷ r.more;
  goes_on = r.goes_on ∙ append_assoc waiting (v ∷ []) r.more;
  number = let n = r.number in let k = unmarked-set marks v l new in let p = length_push waiting v in omega arith;
}
  where
    here : is_marked (set marks v true) v ≡ true
    here = get_or-set_same marks v true false l

    before : (u : ℕ) → is_marked marks u ≡ true → (u ≡ v) ⊎ (is_marked (set marks v true) u ≡ is_marked marks u) → is_marked (set marks v true) u ≡ true
    before u m (inl e) = subst (λ x. is_marked (set marks v true) x ≡ true) (sym e) here
    before u m (inr e) = e ∙ m

    not_before : (u : ℕ) → is_marked (set marks v true) u ≡ false → is_marked marks u ≡ false
    not_before u f = not_true (is_marked marks u) (λ t. let k = before u t (marked-set marks v u l) in absurd cc)

    waits : (u : ℕ) → is_marked (set marks v true) u ≡ true → (u ≡ v) ⊎ (is_marked (set marks v true) u ≡ is_marked marks u) → (is_marked marks u ≡ true) ⊎ IsIn u waiting'
    waits u m (inl e) = inr (subst (λ xs. IsIn u xs) (sym r.goes_on) (IsIn-append_first (waiting ++ v ∷ []) r.more u (IsIn-append_second waiting (v ∷ []) u (inl e))))
    waits u m (inr e) = inl (sym e ∙ m)

pub rest_seen : (vs : List ℕ) (i : ℕ) (marks : List Bool) (waiting : List ℕ) (marks' : List Bool) (waiting' : List ℕ) → i < length vs
    → is_marked marks (get_or vs i 0) ≡ true → IsMarking (drop (i + 1) vs) marks waiting marks' waiting' → IsMarking (drop i vs) marks waiting marks' waiting'
rest_seen vs i marks waiting marks' waiting' l seen r =
    subst (λ xs. IsMarking xs marks waiting marks' waiting') (sym (drop_more vs i 0 l)) (marking_seen (get_or vs i 0) (drop (i + 1) vs) marks waiting marks' waiting' seen r)

pub rest_fresh : (vs : List ℕ) (i : ℕ) (marks : List Bool) (waiting : List ℕ) (marks' : List Bool) (waiting' : List ℕ) → i < length vs → get_or vs i 0 < length marks
    → is_marked marks (get_or vs i 0) ≡ false → IsMarking (drop (i + 1) vs) (set marks (get_or vs i 0) true) (waiting ++ get_or vs i 0 ∷ []) marks' waiting' → IsMarking (drop i vs) marks waiting marks' waiting'
rest_fresh vs i marks waiting marks' waiting' l below new r =
    subst (λ xs. IsMarking xs marks waiting marks' waiting') (sym (drop_more vs i 0 l)) (marking_fresh (get_or vs i 0) (drop (i + 1) vs) marks waiting marks' waiting' below new r)
