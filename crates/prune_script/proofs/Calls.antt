-- Calls with the ordinals of their places.
use Rattle.std.proofs.Common.{ℕ, zero, suc, ◌≡◌, ◌+◌, ◌<◌, ◌≤◌, List, [], ◌∷◌, ◌++◌, length, slice_index_or, true, false, Option, Some, None, refl, sym, ◌∙◌, ap, ap₂, subst, arith}
use Rattle.std.specs.Prelude.{◌==◌, find, slice_get, cond, MatchOption, IfSome, option_map}
use Rattle.std.specs.List.{HoldsAt}
use Rattle.std.proofs.lemmas.Bool.Decides.{nat_tests}
use Rattle.std.proofs.lemmas.Option.{slice_get_past, slice_get-get_or}
use Rattle.script_ast.specs.WellFormed.{IsCallAt, AreCallsAfter}
use Rattle.script_ast.specs.declared.call_list.Call.{Call}

-- no call has the ordinal of one before these
pub find_none : (n k : ℕ) (calls : List Call) → k ≤ n → AreCallsAfter n calls → find (λ (call : Call). call.ordinal == k) calls ≡ None
find_none n k [] low are = refl
find_none n k (call ∷ calls) low are =
    let is : call.ordinal ≡ n + 1 = are.0.0 in
    let other : (call.ordinal == k) ≡ false = grind (arith, nat_tests) in
    ap₂ (λ b r. cond b (Some call) r) other (find_none (n + 1) k calls (omega arith) are.1)

-- the call with an ordinal stands at its place
pub find_call : (n k : ℕ) (calls : List Call) → AreCallsAfter n calls → find (λ (call : Call). call.ordinal == n + 1 + k) calls ≡ slice_get calls k
find_call n k [] are = refl
find_call n zero (call ∷ calls) are =
    let is : call.ordinal ≡ n + 1 = are.0.0 in
    let here : (call.ordinal == n + 1 + 0) ≡ true = grind (arith, nat_tests) in
    ap (λ b. cond b (Some call) (find (λ (c : Call). c.ordinal == n + 1 + 0) calls)) here
find_call n (suc k) (call ∷ calls) are =
    let is : call.ordinal ≡ n + 1 = are.0.0 in
    let other : (call.ordinal == n + 1 + suc k) ≡ false = grind (arith, nat_tests) in
    let same : n + 1 + 1 + k ≡ n + 1 + suc k = omega arith in
    ap₂ (λ b r. cond b (Some call) r) other (subst (λ m. find (λ (c : Call). c.ordinal == m) calls ≡ slice_get calls k) same (find_call (n + 1) k calls are.1))

pub call_in : (n k : ℕ) (calls : List Call) (d : Call) → AreCallsAfter n calls → k < length calls → IsCallAt (n + k + 1) (slice_index_or calls k d)
call_in n k [] d are low = absurd (omega arith)
call_in n zero (call ∷ calls) d are low = let same : n + 1 ≡ n + 0 + 1 = omega arith in subst (λ m. IsCallAt m call) same are.0
call_in n (suc k) (call ∷ calls) d are low = let same : n + 1 + k + 1 ≡ n + suc k + 1 = omega arith in subst (λ m. IsCallAt m (slice_index_or calls k d)) same (call_in (n + 1) k calls d are.1 (omega arith))

-- the call that comes after some of the calls
pub next_call : (n : ℕ) (before rest : List Call) (call : Call) → AreCallsAfter n (before ++ call ∷ rest) → IsCallAt (n + length before + 1) call
next_call n [] rest call are = let same : n + 1 ≡ n + 0 + 1 = omega arith in subst (λ m. IsCallAt m call) same are.0
next_call n (first ∷ before) rest call are = let same : n + 1 + length before + 1 ≡ n + suc (length before) + 1 = omega arith in subst (λ m. IsCallAt m call) same (next_call (n + 1) before rest call are.1)

-- ---- what a look-up by the place finds

module _ {R : Type 0} (now : R → Call) (calls : List Call) (i : ℕ) where
  pub found_is : (r : Option R) → MatchOption r (length calls ≤ i) (λ x. (i < length calls) × HoldsAt (λ y. now x ≡ y) calls i) → option_map now r ≡ slice_get calls i
  found_is None past = sym (slice_get_past calls i past)
  found_is (Some x) here = ap Some (here.1 (now x)) ∙ sym (slice_get-get_or calls i (now x) here.0)

  pub found_call : (r : Option R) → AreCallsAfter 0 calls → MatchOption r (length calls ≤ i) (λ x. (i < length calls) × HoldsAt (λ y. now x ≡ y) calls i) → IfSome r (λ x. IsCallAt (i + 1) (now x) × (i < length calls))
  found_call None are past = tt
  found_call (Some x) are here =
      let same : 0 + i + 1 ≡ i + 1 = omega arith in
      (subst (λ c. IsCallAt (i + 1) c) (sym (here.1 (now x))) (subst (λ n. IsCallAt n (slice_index_or calls i (now x))) same (call_in 0 i calls (now x) are here.0)), here.0)
