-- The calls of a list, counted and found.
use Rattle.std.proofs.Common.{ℕ, zero, suc, ◌≡◌, ◌≤◌, ◌<◌, ◌+◌, List, [], ◌∷◌, length, drop, Bool, true, false, replicate, inl, inr, refl, sym, ◌∙◌, ap, subst, arith}
use Rattle.std.proofs.lemmas.Bool.{cases_lt}
use Rattle.std.proofs.lemmas.Bool.Decides.{nat_tests}
use Rattle.std.proofs.Math.Seq.{drop-cons}
use Rattle.std.proofs.lemmas.Grind.{get_or-set_at}
use Rattle.std.proofs.lemmas.List.{get_or-replicate, get_or-set_other, get_or_default, get_or_past, length-drop, length-replicate}
use Rattle.std.specs.Prelude.{◌==◌, if◌then◌else◌, slice_index_or, slice_set}
use Rattle.script_ast.specs.WellFormed.{AreCallsAfter}
use Rattle.script_ast.specs.declared.call_list.Call.{Call}
use Rattle.session.specs.Session.{held_by}

-- what comes after so many calls of a script
pub after_some : (n k m : ℕ) (calls : List Call) → m ≡ n + k → AreCallsAfter n calls → AreCallsAfter m (drop k calls)
after_some n zero m calls at are = subst (λ x. AreCallsAfter x calls) (omega arith) are
after_some n (suc k) m [] at are = tt
after_some n (suc k) m (call ∷ calls) at are = after_some (n + 1) k m calls (omega arith) are.1

-- a list's calls come after its holder
pub none_early : (n k holder : ℕ) (calls : List Call) → AreCallsAfter n calls → n + k ≤ holder → held_by holder (drop k calls) ≡ held_by holder calls
none_early n zero holder calls are early = refl
none_early n (suc k) holder [] are early = refl
none_early n (suc k) holder (call ∷ calls) are early =
    let low = are.0.1 in
    let other : (call.holder == holder) ≡ false = grind (arith, nat_tests) in
    none_early (n + 1) k holder calls are.1 (omega arith) ∙ sym (ap (λ b. if b then call ∷ held_by holder calls else held_by holder calls) other)

-- a holder past all calls holds none
pub none_past : (n holder : ℕ) (calls : List Call) → AreCallsAfter n calls → n + length calls ≤ holder → held_by holder calls ≡ []
none_past n holder [] are past = refl
none_past n holder (call ∷ calls) are past =
    let low = are.0.1 in
    let other : (call.holder == holder) ≡ false = grind (arith, nat_tests) in
    ap (λ b. if b then call ∷ held_by holder calls else held_by holder calls) other ∙ none_past (n + 1) holder calls are.1 (omega arith)

-- some are left, so there is a call
pub some_left : (holder : ℕ) (calls : List Call) → 0 < length (held_by holder calls) → 0 < length calls
some_left holder [] some = absurd (omega arith)
some_left holder (call ∷ calls) some = omega arith

-- none is left
pub none_left : (A : Type 0) (xs : List A) → length xs ≡ 0 → xs ≡ []
none_left A [] none = refl
none_left A (x ∷ xs) none = absurd (omega arith)

-- one of the calls that are left, or none
pub one_less : (holder : ℕ) (call : Call) (calls : List Call) → call.holder ≡ holder → length (held_by holder (call ∷ calls)) ≡ suc (length (held_by holder calls))
one_less holder call calls mine =
    let test : (call.holder == holder) ≡ true = grind (arith, nat_tests) in
    ap (λ b. length (if b then call ∷ held_by holder calls else held_by holder calls)) test

pub no_less : (holder : ℕ) (call : Call) (calls : List Call) → (call.holder ≡ holder → ⊥) → length (held_by holder (call ∷ calls)) ≡ length (held_by holder calls)
no_less holder call calls other =
    let test : (call.holder == holder) ≡ false = grind (arith, nat_tests, other) in
    ap (λ b. length (if b then call ∷ held_by holder calls else held_by holder calls)) test

-- behind the end nothing is left
pub past_all : (k : ℕ) (calls : List Call) → length calls ≤ k → drop k calls ≡ []
past_all zero [] past = refl
past_all zero (call ∷ calls) past = absurd (omega arith)
past_all (suc k) [] past = refl
past_all (suc k) (call ∷ calls) past = past_all k calls (omega arith)

-- where some are left, the next call is there
pub next_call : (calls : List Call) (place holder count : ℕ) (call : Call) → count ≡ length (held_by holder (drop place calls)) → 0 < count → call ≡ slice_index_or calls place call
    → (place < length calls) × (drop place calls ≡ call ∷ drop (place + 1) calls)
next_call calls place holder count call is some at =
    let more = some_left holder (drop place calls) (subst (λ n. 0 < n) is some) in
    let inside : place < length calls = omega (arith, more, length-drop place calls) in
    let next : suc place ≡ place + 1 = omega arith in
    (inside, drop-cons calls place call inside ∙ ap (λ x. x ∷ drop (suc place) calls) (sym at) ∙ ap (λ n. call ∷ drop n calls) next)

-- ---- counting

-- no more calls are held than there are
pub few_held : (holder : ℕ) (calls : List Call) → length (held_by holder calls) ≤ length calls
few_held holder [] = omega arith
few_held holder (call ∷ calls) = by_test (call.holder == holder) (few_held holder calls)
  where
    by_test : (b : Bool) → length (held_by holder calls) ≤ length calls → length (if b then call ∷ held_by holder calls else held_by holder calls) ≤ suc (length calls)
    by_test true few = omega arith
    by_test false few = omega arith

nought : ℕ
nought = 0

pub zero_at : (zeros : List ℕ) (n h : ℕ) → zeros ≡ replicate n 0 → slice_index_or zeros h 0 ≡ 0
unfolding nought
zero_at zeros n h are = elim (cases_lt h n) [
  | inl low ↦ ap (λ (xs : List ℕ). slice_index_or xs h 0) are ∙ get_or-replicate n h nought nought low
  | inr high ↦ get_or_past zeros h 0 (let long = ap length are ∙ length-replicate n nought in omega (arith, long))
]

-- one call is counted
pub counted_more : (lengths : List ℕ) (call : Call) (rest : List Call) (v : ℕ) → call.holder < length lengths → v ≡ slice_index_or lengths call.holder v → (h whole : ℕ)
    → slice_index_or lengths h 0 + length (held_by h (call ∷ rest)) ≡ whole → slice_index_or (slice_set lengths call.holder (v + 1)) h 0 + length (held_by h rest) ≡ whole
counted_more lengths call rest v inside is h whole so_far = by_test (call.holder == h) refl
  where
    by_test : (b : Bool) → (call.holder == h) ≡ b → slice_index_or (slice_set lengths call.holder (v + 1)) h 0 + length (held_by h rest) ≡ whole
    by_test true t =
        let same : h ≡ call.holder = grind (arith, nat_tests) in
        let new = get_or-set_at lengths call.holder h (v + 1) 0 same inside in
        let old : slice_index_or lengths h 0 ≡ v = ap (λ k. slice_index_or lengths k 0) same ∙ get_or_default lengths call.holder 0 v inside ∙ sym is in
        let less = one_less h call rest (sym same) in
        omega (arith, new, old, less, so_far)
    by_test false t =
        let other : call.holder ≡ h → ⊥ = λ e. let on : (call.holder == h) ≡ true = grind (arith, nat_tests) in absurd (let both = sym t ∙ on in cc) in
        let new = get_or-set_other lengths call.holder h (v + 1) 0 (λ e. other (sym e)) in
        let less = no_less h call rest other in
        omega (arith, new, less, so_far)
