-- The places of calls in a list: calls with different ordinals have different places.
use Rattle.std.proofs.Common.{ℕ, zero, suc, ◌≡◌, ◌+◌, ◌<◌, ◌≤◌, length, List, [], ◌∷◌, map, Bool, true, false, cond, inl, inr, refl, sym, ◌∙◌, ap, subst, arith}
use Rattle.std.specs.Prelude.{◌==◌, nat_lt, None, Some, find}
use Rattle.std.specs.Option.{option_map_or}
use Rattle.std.specs.List.{position_or_len}
use Rattle.std.proofs.lemmas.Bool.{eqb-true, eq-eqb, ltb-true, lt-ltb}
use Rattle.law_base.specs.Members.{IsIn}
use Rattle.script_ast.specs.declared.call_list.Call.{Call}
use Rattle.script_ast.specs.WellFormed.{AreCallsAfter, IsCallAt}
use Rattle.script_ast.specs.Operations.{IsInRange}
use Rattle.prune_script.specs.Pruned.{place_in}
use Rattle.prune.proofs.Members.{same_truth}

-- ---- calls with their ordinals

abbrev pub ordinals : List Call → List ℕ
ordinals calls = map (λ (call : Call). call.ordinal) calls

-- a call of the list comes after the ordinals before it, and after its holder, and its fields are in range
pub record IsPlaced (n : ℕ) (call : Call) : Type 0 where
  pub later : n < call.ordinal
  pub held : call.holder < call.ordinal
  pub fields : IsInRange call.op

pub placed : (n : ℕ) (calls : List Call) → AreCallsAfter n calls → (call : Call) → IsIn call calls → IsPlaced n call
placed n [] after call h = absurd h
placed n (c ∷ cs) after call (inl e) =
    let at : IsCallAt (n + 1) call = subst (IsCallAt (n + 1)) (sym e) after.0 in
    record { later = omega (arith, at.0); held = omega (arith, at.0, at.1); fields = at.2 }
placed n (c ∷ cs) after call (inr h) =
    let p = placed (n + 1) cs after.1 call h in
    record { later = let l = p.later in omega (arith, l); held = p.held; fields = p.fields }

-- one ordinal is one call
pub one_call : (n : ℕ) (calls : List Call) → AreCallsAfter n calls → (c d : Call) → IsIn c calls → IsIn d calls → c.ordinal ≡ d.ordinal → c ≡ d
one_call n [] after c d h k same = absurd h
one_call n (x ∷ xs) after c d (inl e) (inl f) same = e ∙ sym f
one_call n (x ∷ xs) after c d (inl e) (inr k) same =
    absurd (let p = (placed (n + 1) xs after.1 d k).later in let at = after.0.0 in let is = ap (λ (y : Call). y.ordinal) e in omega (arith, p, at, is, same))
one_call n (x ∷ xs) after c d (inr h) (inl f) same =
    absurd (let p = (placed (n + 1) xs after.1 c h).later in let at = after.0.0 in let is = ap (λ (y : Call). y.ordinal) f in omega (arith, p, at, is, same))
one_call n (x ∷ xs) after c d (inr h) (inr k) same = one_call (n + 1) xs after.1 c d h k same

-- the call that is found by its ordinal
pub found_call : (n : ℕ) (calls : List Call) → AreCallsAfter n calls → (c : Call) → IsIn c calls → find (λ call. call.ordinal == c.ordinal) calls ≡ Some c
found_call n [] after c h = absurd h
found_call n (x ∷ xs) after c h = by_test (x.ordinal == c.ordinal) refl (λ k. found_call (n + 1) xs after.1 c k) h
  where
    by_test : (b : Bool) → (x.ordinal == c.ordinal) ≡ b → (IsIn c xs → find (λ call. call.ordinal == c.ordinal) xs ≡ Some c) → IsIn c (x ∷ xs) → cond b (Some x) (find (λ call. call.ordinal == c.ordinal) xs) ≡ Some c
    by_test true e more k = ap Some (one_call n (x ∷ xs) after x c (inl refl) h (eqb-true x.ordinal c.ordinal e))
    by_test false e more (inl same) = absurd (let t = eq-eqb x.ordinal c.ordinal (ap (λ (y : Call). y.ordinal) (sym same)) in cc)
    by_test false e more (inr k) = more k

-- ---- places

-- the place in a list with one call more before it
abbrev pub moved : ℕ → ℕ
moved zero = 0
moved (suc n) = suc (suc n)

place_of : Bool → ℕ → ℕ
place_of b n = option_map_or suc (cond b (Some n) None) 0

pub place_here : (c : Call) (cs : List Call) (n : ℕ) → (c.ordinal == n) ≡ true → place_in (c ∷ cs) n ≡ 1
place_here c cs n e = rw e (rw (lt-ltb 0 (suc (length cs)) (omega arith)) refl)

pub place_next : (c : Call) (cs : List Call) (n : ℕ) → (c.ordinal == n) ≡ false → place_in (c ∷ cs) n ≡ moved (place_in cs n)
place_next c cs n e = rw e (rw (same_lt (position_or_len (λ (call : Call). call.ordinal == n) cs) (length cs)) (by_test (nat_lt (position_or_len (λ (call : Call). call.ordinal == n) cs) (length cs)) (position_or_len (λ (call : Call). call.ordinal == n) cs)))
  where
    same_lt : (a b : ℕ) → nat_lt (1 + a) (suc b) ≡ nat_lt a b
    same_lt a b = same_truth (nat_lt (1 + a) (suc b)) (nat_lt a b)
        (λ t. lt-ltb a b (let l = ltb-true (1 + a) (suc b) t in omega (arith, l)))
        (λ t. lt-ltb (1 + a) (suc b) (let l = ltb-true a b t in omega (arith, l)))

    by_test : (b : Bool) (k : ℕ) → option_map_or suc (cond b (Some (1 + k)) None) 0 ≡ moved (option_map_or suc (cond b (Some k) None) 0)
    by_test true k = let same : suc (1 + k) ≡ suc (suc k) = omega arith in same
    by_test false k = refl

pub place_some : (calls : List Call) (a : ℕ) → IsIn a (ordinals calls) → 1 ≤ place_in calls a
place_some [] a h = absurd h
place_some (c ∷ cs) a h = by_test (c.ordinal == a) refl (λ k. place_some cs a k) h
  where
    up : (n : ℕ) → 1 ≤ n → 1 ≤ moved n
    up zero l = absurd (omega arith)
    up (suc n) l = omega arith

    by_test : (b : Bool) → (c.ordinal == a) ≡ b → (IsIn a (ordinals cs) → 1 ≤ place_in cs a) → IsIn a (ordinals (c ∷ cs)) → 1 ≤ place_in (c ∷ cs) a
    by_test true e more k = let p = place_here c cs a e in omega (arith, p)
    by_test false e more (inl same) = absurd (let t = eq-eqb c.ordinal a (sym same) in cc)
    by_test false e more (inr k) = subst (λ n. 1 ≤ n) (sym (place_next c cs a e)) (up (place_in cs a) (more k))

pub place_none : (calls : List Call) (a : ℕ) → (IsIn a (ordinals calls) → ⊥) → place_in calls a ≡ 0
place_none [] a none = refl
place_none (c ∷ cs) a none = by_test (c.ordinal == a) refl (place_none cs a (λ h. none (inr h)))
  where
    by_test : (b : Bool) → (c.ordinal == a) ≡ b → place_in cs a ≡ 0 → place_in (c ∷ cs) a ≡ 0
    by_test true e more = absurd (none (inl (sym (eqb-true c.ordinal a e))))
    by_test false e more = place_next c cs a e ∙ ap moved more

one_moved : (a b : ℕ) → moved a ≡ moved b → a ≡ b
one_moved zero zero e = refl
one_moved zero (suc b) e = absurd (omega (arith, e))
one_moved (suc a) zero e = absurd (omega (arith, e))
one_moved (suc a) (suc b) e = omega (arith, e)

pub one_place : (calls : List Call) (a b : ℕ) → IsIn a (ordinals calls) → place_in calls a ≡ place_in calls b → a ≡ b
one_place [] a b h same = absurd h
one_place (c ∷ cs) a b h same = by_test (c.ordinal == a) (c.ordinal == b) refl refl (λ k. one_place cs a b k) h
  where
    not_one : (n : ℕ) → moved n ≡ 1 → ⊥
    not_one zero e = absurd (omega (arith, e))
    not_one (suc n) e = absurd (omega (arith, e))

    by_test : (t s : Bool) → (c.ordinal == a) ≡ t → (c.ordinal == b) ≡ s → (IsIn a (ordinals cs) → place_in cs a ≡ place_in cs b → a ≡ b) → IsIn a (ordinals (c ∷ cs)) → a ≡ b
    by_test true true e f more k = sym (eqb-true c.ordinal a e) ∙ eqb-true c.ordinal b f
    by_test true false e f more k = absurd (not_one (place_in cs b) (sym (place_next c cs b f) ∙ sym same ∙ place_here c cs a e))
    by_test false true e f more k = absurd (not_one (place_in cs a) (sym (place_next c cs a e) ∙ same ∙ place_here c cs b f))
    by_test false false e f more (inl is) = absurd (let t = eq-eqb c.ordinal a (sym is) in cc)
    by_test false false e f more (inr k) = more k (one_moved (place_in cs a) (place_in cs b) (sym (place_next c cs a e) ∙ same ∙ place_next c cs b f))
