-- Going through the calls of a script in document order.
use Rattle.std.proofs.Common.{◌≡◌, ◌≤◌, ◌<◌, ◌+◌, ◌==◌, ℕ, List, [], ◌∷◌, ◌++◌, length, Bool, true, false, inl, inr, refl, sym, subst, ◌∙◌, append_assoc, arith}
use Rattle.std.specs.Prelude.{All, if◌then◌else◌}
use Rattle.std.proofs.lemmas.Grind.{common_steps}
use Rattle.std.proofs.lemmas.List.Elements.{All-nil, All-cons, All-head, All-tail, All-weaker}
use Rattle.serde_json.specs.Data.{Items, no_items, item}
use Rattle.script_ast.specs.Holders.{IsOpen, MayHold, AreNested}
use Rattle.script_ast.specs.WellFormed.{AreCallsAfter}
use Rattle.script_ast.specs.declared.call_list.Call.{Call}
use Rattle.script_ast.proofs.Nesting.{open_first, open_none}
use Rattle.script_text.specs.Order.{Follows, AreInOrder, BeginBelow, MayBeginWith}
use Rattle.script_text.specs.Text.{held_calls, call_data}

-- ---- calls that lie in one another come in document order

pub right_part : {X : Type 0} (P : X → Type 0) (xs ys : List X) → All P (xs ++ ys) → All P ys
right_part P [] ys all = all
right_part P (x ∷ xs) ys all = right_part P xs ys (All-tail P x (xs ++ ys) all)

-- the ordinals of calls after n others are above n
later_ordinals : (n : ℕ) (calls : List Call) (ordinal : ℕ) → AreCallsAfter n calls → IsOpen calls ordinal → n < ordinal
later_ordinals n [] ordinal placed is_open = absurd (open_none ordinal is_open)
later_ordinals n (call ∷ calls) ordinal placed is_open = elim (open_first call calls ordinal is_open) [
  | inl this ↦ let number = this.0 in let at = placed.0.0 in omega arith
  | inr other ↦ let more = later_ordinals (n + 1) calls ordinal placed.1 other in omega arith
]

left_placed : (n : ℕ) (xs ys : List Call) → AreCallsAfter n (xs ++ ys) → AreCallsAfter n xs
left_placed n [] ys placed = tt
left_placed n (x ∷ xs) ys placed = (placed.0, left_placed (n + 1) xs ys placed.1)

right_placed : (n : ℕ) (xs ys : List Call) → AreCallsAfter n (xs ++ ys) → AreCallsAfter (n + length xs) ys
right_placed n [] ys placed = let same : n + 0 ≡ n = omega arith in subst (λ (k : ℕ). AreCallsAfter k ys) (sym same) placed
right_placed n (x ∷ xs) ys placed =
    let same : n + length (x ∷ xs) ≡ n + 1 + length xs = omega arith in
    subst (λ (k : ℕ). AreCallsAfter k ys) (sym same) (right_placed (n + 1) xs ys placed.1)

-- where a call of these is open, a later one that it holds follows each of them
open_follows : (before between : List Call) (call later : Call) (n : ℕ) → call.ordinal ≡ n → AreCallsAfter n between → IsOpen (before ++ call ∷ between) later.holder → Follows call later
open_follows [] between call later n number placed is_open = elim (open_first call between later.holder is_open) as (λ _. Follows call later) [
  | inl this ↦ inr (omega (arith, this.0), λ (same : later.holder ≡ call.ordinal). this.1)
  | inr other ↦
      let above = later_ordinals n between later.holder placed other in
      inr (omega (arith, above, number), λ (same : later.holder ≡ call.ordinal). absurd (omega (arith, above, number, same)))
]
open_follows (x ∷ before) between call later n number placed is_open = elim (open_first x (before ++ call ∷ between) later.holder is_open) as (λ _. Follows call later) [
  | inl this ↦ inl (All-head (λ (c : Call). later.holder ≤ c.holder) call between (right_part (λ (c : Call). later.holder ≤ c.holder) before (call ∷ between) this.2))
  | inr other ↦ open_follows before between call later n number placed other
]

call_follows : (before between : List Call) (call later : Call) (n : ℕ) → call.ordinal ≡ n → AreCallsAfter n between → MayHold (before ++ call ∷ between) later.holder → Follows call later
call_follows before between call later n number placed (inl main) = inl (omega arith)
call_follows before between call later n number placed (inr is_open) = open_follows before between call later n number placed is_open

all_follow : (whole before between after : List Call) (call : Call) (n : ℕ) → call.ordinal ≡ n → AreCallsAfter n (between ++ after) → AreNested whole
    → whole ≡ (before ++ (call ∷ between)) ++ after → All (Follows call) after
all_follow whole before between [] call n number placed nested parts = All-nil (Follows call)
all_follow whole before between (later ∷ after) call n number placed nested parts =
    let regroup : between ++ (later ∷ after) ≡ (between ++ (later ∷ [])) ++ after = simp append_assoc in
    let moved : (before ++ (call ∷ between)) ++ (later ∷ after) ≡ (before ++ (call ∷ (between ++ (later ∷ [])))) ++ after = simp append_assoc in
    let this = call_follows before between call later n number (left_placed n between (later ∷ after) placed) (nested (before ++ (call ∷ between)) after later parts) in
    All-cons (Follows call) later after this (all_follow whole before (between ++ (later ∷ [])) after call n number (subst (AreCallsAfter n) regroup placed) nested (parts ∙ moved))

order_from : (n : ℕ) (whole before calls : List Call) → AreCallsAfter n calls → AreNested whole → whole ≡ before ++ calls → AreInOrder n calls
order_from n whole before [] placed nested parts = tt
order_from n whole before (call ∷ calls) placed nested parts =
    let moved : before ++ (call ∷ calls) ≡ (before ++ (call ∷ [])) ++ calls = simp append_assoc in
    let early : call.holder ≤ n = omega (arith, placed.0.1) in
    (placed.0.0, early, all_follow whole before [] calls call (n + 1) placed.0.0 placed.1 nested (parts ∙ moved), order_from (n + 1) whole (before ++ (call ∷ [])) calls placed.1 nested (parts ∙ moved))

begin_main : (calls : List Call) → AreInOrder 0 calls → BeginBelow (0 + 1) calls
begin_main [] order = tt
begin_main (call ∷ calls) order = let early = order.1 in omega arith

-- the calls of a script begin with its main list
pub main_list_first : (calls : List Call) → AreCallsAfter 0 calls → AreNested calls → MayBeginWith 0 calls
main_list_first calls placed nested =
    let order = order_from 0 calls [] calls placed nested refl in
    let zero : 0 ≤ 0 = omega arith in
    (0, zero, order, begin_main calls order)

-- ---- one list after another

abbrev IsElsewhere : ℕ → Call → Type 0
IsElsewhere holder call = call.holder ≡ holder → ⊥

taken : (b : Bool) (x y : Items) → b ≡ true → (if b then x else y) ≡ x
taken true x y h = refl
taken false x y h = cc

left : (b : Bool) (x y : Items) → b ≡ false → (if b then x else y) ≡ y
left true x y h = cc
left false x y h = refl

same_number : (m n : ℕ) → m ≡ n → (m == n) ≡ true
same_number m n h = grind (arith, common_steps)

other_number : (m n : ℕ) → (m ≡ n → ⊥) → (m == n) ≡ false
other_number m n h = grind (arith, common_steps)

-- calls that this one does not hold are passed over
pub held_calls-passed : (rate holder : ℕ) (passed rest : List Call) → All (λ (call : Call). holder < call.holder) passed → held_calls rate holder (passed ++ rest) ≡ held_calls rate holder rest
unfolding held_calls
held_calls-passed rate holder [] rest above = refl
held_calls-passed rate holder (call ∷ passed) rest above =
    let first = All-head (λ (c : Call). holder < c.holder) call passed above in
    left (call.holder == holder) _ _ (other_number call.holder holder (λ (same : call.holder ≡ holder). absurd (omega arith)))
    ∙ held_calls-passed rate holder passed rest (All-tail (λ (c : Call). holder < c.holder) call passed above)

-- the first call, where this one holds it
pub held_calls-first : (rate holder : ℕ) (call : Call) (calls : List Call) → call.holder ≡ holder
    → held_calls rate holder (call ∷ calls) ≡ item (call_data rate (held_calls rate call.ordinal calls) call.op) (held_calls rate holder calls)
unfolding held_calls
held_calls-first rate holder call calls same = taken (call.holder == holder) _ _ (same_number call.holder holder same)

held_calls-elsewhere : (rate holder : ℕ) (calls : List Call) → All (IsElsewhere holder) calls → held_calls rate holder calls ≡ no_items
unfolding held_calls
held_calls-elsewhere rate holder [] elsewhere = refl
held_calls-elsewhere rate holder (call ∷ calls) elsewhere =
    left (call.holder == holder) _ _ (other_number call.holder holder (All-head (IsElsewhere holder) call calls elsewhere))
    ∙ held_calls-elsewhere rate holder calls (All-tail (IsElsewhere holder) call calls elsewhere)

-- past the end of the list of a call it holds none
pub held_calls-ended : (rate holder n : ℕ) (calls : List Call) → holder ≤ n → AreInOrder n calls → BeginBelow holder calls → held_calls rate holder calls ≡ no_items
unfolding held_calls
held_calls-ended rate holder n [] early order below = refl
held_calls-ended rate holder n (call ∷ calls) early order below =
    let later = All-weaker (Follows call) (IsElsewhere holder) (λ (c : Call) (follows : Follows call c) (same : c.holder ≡ holder). elim follows as (λ _. ⊥) [
      | inl past ↦ absurd (omega arith)
      | inr within ↦ let inner = within.0 in let number = order.0 in absurd (omega arith)
    ]) calls order.2 in
    held_calls-elsewhere rate holder (call ∷ calls) (All-cons (IsElsewhere holder) call calls (λ (same : call.holder ≡ holder). absurd (omega arith)) later)

pub order_after : (n : ℕ) (passed rest : List Call) → AreInOrder n (passed ++ rest) → AreInOrder (n + length passed) rest
order_after n [] rest order = let same : n + 0 ≡ n = omega arith in subst (λ (k : ℕ). AreInOrder k rest) (sym same) order
order_after n (call ∷ passed) rest order =
    let same : n + length (call ∷ passed) ≡ n + 1 + length passed = omega arith in
    subst (λ (k : ℕ). AreInOrder k rest) (sym same) (order_after (n + 1) passed rest order.3)
