-- The places of calls in a list that one more call joins.
use Rattle.std.proofs.Common.{ℕ, zero, suc, ◌≡◌, ◌+◌, ◌<◌, ◌≤◌, List, [], ◌∷◌, ◌++◌, length, Bool, true, false, not, cond, Some, None, refl, sym, ◌∙◌, ap, ap₂, arith}
use Rattle.std.specs.Prelude.{if◌then◌else◌, ◌==◌, nat_lt, All}
use Rattle.std.specs.List.{position_or_len}
use Rattle.std.specs.Option.{option_map_or}
use Rattle.std.proofs.lemmas.Bool.Decides.{nat_tests}
use Rattle.std.proofs.lemmas.List.Elements.{All-head, All-tail}
use Rattle.script_ast.specs.declared.call_list.Call.{Call}
use Rattle.prune_script.specs.Pruned.{place_in}

abbrev further_on : ℕ → ℕ
further_on zero = zero
further_on (suc n) = suc (suc n)

-- the place by recursion
abbrev place : List Call → ℕ → ℕ
place [] ordinal = 0
place (call ∷ calls) ordinal = if call.ordinal == ordinal then 1 else further_on (place calls ordinal)

place_is : (calls : List Call) (ordinal : ℕ) → place_in calls ordinal ≡ place calls ordinal
place_is [] ordinal = refl
place_is (call ∷ calls) ordinal = by_test (call.ordinal == ordinal) ∙ ap (λ n. if call.ordinal == ordinal then 1 else further_on n) (place_is calls ordinal)
  where
    at : ℕ
    at = position_or_len (λ (c : Call). c.ordinal == ordinal) calls

    later : (b : Bool) → nat_lt at (length calls) ≡ b → option_map_or suc (cond (nat_lt (1 + at) (suc (length calls))) (Some (1 + at)) None) 0 ≡ further_on (option_map_or suc (cond b (Some at) None) 0)
    later true is =
        let t : nat_lt (1 + at) (suc (length calls)) ≡ true = grind (arith, nat_tests) in
        ap (λ b. option_map_or suc (cond b (Some (1 + at)) None) 0) t ∙ ap suc (omega arith)
    later false is =
        let t : nat_lt (1 + at) (suc (length calls)) ≡ false = grind (arith, nat_tests) in
        ap (λ b. option_map_or suc (cond b (Some (1 + at)) None) 0) t

    by_test : (b : Bool) → option_map_or suc (cond (nat_lt (cond (not b) (1 + at) 0) (suc (length calls))) (Some (cond (not b) (1 + at) 0)) None) 0 ≡ (if b then 1 else further_on (place_in calls ordinal))
    by_test true = let t : nat_lt 0 (suc (length calls)) ≡ true = grind (arith, nat_tests) in ap (λ b. option_map_or suc (cond b (Some 0) None) 0) t
    by_test false = later (nat_lt at (length calls)) refl

other_place : (calls : List Call) (call : Call) (ordinal : ℕ) → (call.ordinal == ordinal) ≡ false → place (calls ++ call ∷ []) ordinal ≡ place calls ordinal
other_place [] call ordinal other = ap (λ b. if b then 1 else 0) other
other_place (first ∷ calls) call ordinal other = ap (λ n. if first.ordinal == ordinal then 1 else further_on n) (other_place calls call ordinal other)

zero_place : (calls : List Call) → All (λ (c : Call). 0 < c.ordinal) calls → place calls 0 ≡ 0
zero_place [] some = refl
zero_place (call ∷ calls) some =
    let l : 0 < call.ordinal = All-head (λ (c : Call). 0 < c.ordinal) call calls some in
    let other : (call.ordinal == 0) ≡ false = grind (arith, nat_tests) in
    ap₂ (λ b n. if b then 1 else further_on n) other (zero_place calls (All-tail (λ (c : Call). 0 < c.ordinal) call calls some))

last_place : (calls : List Call) (call : Call) → All (λ (c : Call). c.ordinal < call.ordinal) calls → place (calls ++ call ∷ []) call.ordinal ≡ suc (length calls)
last_place [] call low = let same : (call.ordinal == call.ordinal) ≡ true = grind (arith, nat_tests) in ap (λ b. if b then 1 else 0) same
last_place (first ∷ calls) call low =
    let l : first.ordinal < call.ordinal = All-head (λ (c : Call). c.ordinal < call.ordinal) first calls low in
    let other : (first.ordinal == call.ordinal) ≡ false = grind (arith, nat_tests) in
    ap₂ (λ b n. if b then 1 else further_on n) other (last_place calls call (All-tail (λ (c : Call). c.ordinal < call.ordinal) first calls low))

low_place : (calls : List Call) (ordinal : ℕ) → place calls ordinal ≤ length calls
low_place [] ordinal = omega arith
low_place (call ∷ calls) ordinal = by_test (call.ordinal == ordinal) (place calls ordinal) (low_place calls ordinal)
  where
    by_test : (b : Bool) (n : ℕ) → n ≤ length calls → (if b then 1 else further_on n) ≤ suc (length calls)
    by_test true n l = omega arith
    by_test false zero l = omega arith
    by_test false (suc n) l = omega arith

-- a call that joins leaves the places of others
pub place_of_other : (calls : List Call) (call : Call) (ordinal : ℕ) → (call.ordinal == ordinal) ≡ false → place_in (calls ++ call ∷ []) ordinal ≡ place_in calls ordinal
place_of_other calls call ordinal other = place_is (calls ++ call ∷ []) ordinal ∙ other_place calls call ordinal other ∙ sym (place_is calls ordinal)

-- it comes last, behind earlier ones
pub place_of_last : (calls : List Call) (call : Call) → All (λ (c : Call). c.ordinal < call.ordinal) calls → place_in (calls ++ call ∷ []) call.ordinal ≡ suc (length calls)
place_of_last calls call low = place_is (calls ++ call ∷ []) call.ordinal ∙ last_place calls call low

-- the main list is the place 0
pub place_of_zero : (calls : List Call) → All (λ (c : Call). 0 < c.ordinal) calls → place_in calls 0 ≡ 0
place_of_zero calls some = place_is calls 0 ∙ zero_place calls some

pub place_within : (calls : List Call) (ordinal : ℕ) → place_in calls ordinal ≤ length calls
place_within calls ordinal = let l = low_place calls ordinal in let e = place_is calls ordinal in omega arith
