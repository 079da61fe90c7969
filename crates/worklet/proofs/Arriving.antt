-- What earlier places leave to a place.
use Rattle.std.proofs.Common.{ℕ, zero, suc, ◌≡◌, ◌+◌, ◌-◌, ◌<◌, ◌≤◌, List, Option, Some, None, sym, subst, refl, ◌∙◌, arith, below_more}
use Rattle.node_table.specs.declared.code.Instr.{Instr}
use Rattle.worklet.specs.Arrivals.{Arrives, Agrees}
use Rattle.worklet.specs.Errors.{AreFine, HasHeight, IsUneven}
use Rattle.node_table.specs.Instructions.{MayPass, GoesOn, instr_at, left}

-- a place goes on at a later one just where it may pass over what lies between
pub goes_from : (code : List Instr) (i place : ℕ) → i < place → MayPass (instr_at code i) (place - i - 1) → GoesOn code i place
goes_from code i place lt may = (place - i - 1, omega arith, may)

pub goes_back : (code : List Instr) (i place : ℕ) → i < place → GoesOn code i place → MayPass (instr_at code i) (place - i - 1)
goes_back code i place lt goes =
    let at = goes.1 in
    let same : goes.0 ≡ place - i - 1 = omega (arith, at) in
    subst (MayPass (instr_at code i)) same goes.2

pub arrives_first : (code : List Instr) (heights : List ℕ) (place : ℕ) → Arrives code heights place 0 None
arrives_first code heights place w = let l = w.1 in absurd (omega (arith, l))

pub arrives_past : (code : List Instr) (heights : List ℕ) (place i : ℕ) (found : Option ℕ) → Arrives code heights place i found → (GoesOn code i place → ⊥) → Arrives code heights place (i + 1) found
arrives_past code heights place i None before past = λ w. below_more (λ k. GoesOn code k place → ⊥) i (λ k l goes. before (k, l, goes)) past w.0 w.1 w.2
arrives_past code heights place i (Some height) before past =
    let w = before.0 in
    let lt = w.1 in (
      (w.0, omega (arith, lt), w.2),
      λ k l. below_more (λ j. GoesOn code j place → left code heights j ≡ height) i before.1 (λ goes. absurd (past goes)) k l,
    )

pub arrives_more : (code : List Instr) (heights : List ℕ) (place i : ℕ) (found : Option ℕ) (height : ℕ) → Arrives code heights place i found
    → GoesOn code i place → Agrees found height → left code heights i ≡ height → Arrives code heights place (i + 1) (Some height)
arrives_more code heights place i None height before goes agree is = (
  (i, omega arith, goes),
  λ k l. below_more (λ j. GoesOn code j place → left code heights j ≡ height) i (λ j lt g. absurd (before (j, lt, g))) (λ g. is) k l,
)
arrives_more code heights place i (Some other) height before goes agree is = (
  (i, omega arith, goes),
  λ k l. below_more (λ j. GoesOn code j place → left code heights j ≡ height) i (λ j lt g. before.1 j lt g ∙ agree) (λ g. is) k l,
)

pub uneven_here : (code : List Instr) (heights : List ℕ) (place i : ℕ) (found : Option ℕ) (height : ℕ) → Arrives code heights place i found
    → i < place → GoesOn code i place → (Agrees found height → ⊥) → left code heights i ≡ height → IsUneven code heights place
uneven_here code heights place i None height before lt goes differ is = absurd (differ tt)
uneven_here code heights place i (Some other) height before lt goes differ is =
    let w = before.0 in
    let l = w.1 in
    (w.0, i, omega (arith, l), lt, w.2, goes, λ same. differ (sym (before.1 w.0 w.1 w.2) ∙ same ∙ is))

-- ---- the height of a place

pub height_found : (code : List Instr) (heights : List ℕ) (place height : ℕ) → Arrives code heights place place (Some height) → HasHeight code heights place height
height_found code heights place height before = record {
  start = λ none. let l = before.0.1 in absurd (omega (arith, l, none));
  reached = λ some. before.0;
  even = before.1;
}

pub height_first : (code : List Instr) (heights : List ℕ) (place : ℕ) → place ≡ 0 → HasHeight code heights place 0
height_first code heights place first = record {
  start = λ none. refl;
  reached = λ some. absurd (omega arith);
  even = λ i l goes. absurd (omega arith);
}

pub low_height : (code : List Instr) (heights : List ℕ) (place height : ℕ) → AreFine code heights place → HasHeight code heights place height → height ≤ 32
low_height code heights zero height fine has = let none = has.start refl in omega (arith, none)
low_height code heights (suc p) height fine has =
    let from = has.reached (omega arith) in
    let is = has.even from.0 from.1 from.2 in
    let low = (fine.fine from.0 from.1).low in
    omega (arith, is, low)
