-- The calls of a well-formed script have holders that are open.
use Rattle.std.proofs.Common.{◌≡◌, ◌<◌, ◌≤◌, ◌+◌, ◌==◌, ◌⊎◌, ℕ, List, [], ◌∷◌, ◌++◌, length, Bool, true, false, inl, inr, refl, sym, ap, subst, ◌∙◌, arith, append_assoc, eqb-true, eq-eqb, ne_eqb}
use Rattle.std.specs.Prelude.{IsTrue, if◌then◌else◌}
use Rattle.std.proofs.Math.Seq.{take-append_seam}
use Rattle.std.proofs.lemmas.Bool.{cases_Bool}
use Rattle.std.proofs.lemmas.List.Elements.{All-nil, All-head, All-take, All-tail}
use Rattle.script_ast.proofs.Nesting.{IsPast, ArePast, open_first, open_none}
use Rattle.script_ast.specs.Holders.{holds_calls, IsOpen, MayHold, AreNested}
use Rattle.script_ast.specs.WellFormed.{AreCallsAfter}
use Rattle.script_ast.specs.declared.call_list.Call.{Call}
use Rattle.script_text.proofs.Law.Tree.{is_in, down_to, opened, AreBelow, AreStacked, down_below, opened_below}

-- ---- the last of the calls

past_last : (ordinal : ℕ) (calls : List Call) (call : Call) → ArePast ordinal (calls ++ call ∷ []) → ArePast ordinal calls × (ordinal ≤ call.holder)
past_last ordinal [] call past = (All-nil (IsPast ordinal), All-head (IsPast ordinal) call [] past)
past_last ordinal (x ∷ calls) call past = (
  subst (λ (l : List Call). ArePast ordinal l) (take-append_seam (x ∷ calls) (call ∷ [])) (All-take (IsPast ordinal) (length (x ∷ calls)) ((x ∷ calls) ++ call ∷ []) past),
  (past_last ordinal calls call (All-tail (IsPast ordinal) x (calls ++ call ∷ []) past)).1,
)

one_more : (x : Call) (calls : List Call) (ordinal : ℕ) → IsOpen calls ordinal → IsOpen (x ∷ calls) ordinal
one_more x calls ordinal is = record {
  before = x ∷ is.before;
  holder = is.holder;
  after = is.after;
  parts = ap (λ (l : List Call). x ∷ l) is.parts;
  number = is.number;
  holds = is.holds;
  enclosed = is.enclosed;
}

-- of a list the last call is open, or one before it, which encloses the last
open_last : (call : Call) (calls : List Call) (ordinal : ℕ) → IsOpen (calls ++ call ∷ []) ordinal
    → ((call.ordinal ≡ ordinal) × IsTrue (holds_calls call.op)) ⊎ (IsOpen calls ordinal × (ordinal ≤ call.holder))
open_last call [] ordinal is = elim (open_first call [] ordinal is) [
  | inl this ↦ inl (this.0, this.1)
  | inr none ↦ absurd (open_none ordinal none)
]
open_last call (x ∷ calls) ordinal is = elim (open_first x (calls ++ call ∷ []) ordinal is) [
  | inl first ↦
      let past = past_last ordinal calls call first.2 in
      inr (record { before = []; holder = x; after = calls; parts = refl; number = first.0; holds = first.1; enclosed = past.0 }, past.1)
  | inr later ↦ elim (open_last call calls ordinal later) [
    | inl this ↦ inl this
    | inr before ↦ inr (one_more x calls ordinal before.0, before.1)
  ]
]

-- ---- the calls that are open

rest_in : (b c : Bool) → (if b then true else c) ≡ true → b ≡ false → c ≡ true
rest_in true c h other = cc
rest_in false c h other = h

inside_below : (h n : ℕ) (stack : List ℕ) → AreBelow n stack → is_in h stack ≡ true → h < n
inside_below h n [] below inside = cc
inside_below h n (s ∷ stack) below inside = elim (cases_Bool (s == h)) [
  | inl same ↦ let e : s ≡ h = eqb-true s h same in omega (arith, below.0)
  | inr other ↦ let less = inside_below h s stack below.1 (rest_in (s == h) (is_in h stack) inside other) in omega (arith, below.0)
]

-- a number that is open stays so where those past a later one are closed
in_down : (h g n : ℕ) (stack : List ℕ) → AreBelow n stack → is_in h stack ≡ true → is_in g stack ≡ true → h ≤ g → is_in h (down_to g stack) ≡ true
in_down h g n [] below inside there least = cc
in_down h g n (s ∷ stack) below inside there least = elim (cases_Bool (s == g)) [
  | inl same ↦ rw same inside
  | inr other ↦
      let there_later = rest_in (s == g) (is_in g stack) there other in
      let less = inside_below g s stack below.1 there_later in
      let apart : (s == h) ≡ false = ne_eqb s h (λ e. omega arith) in
      rw other (in_down h g s stack below.1 (rest_in (s == h) (is_in h stack) inside apart) there_later least)
]

in_opened : (holds : Bool) (h n : ℕ) (stack : List ℕ) → is_in h stack ≡ true → is_in h (opened holds n stack) ≡ true
in_opened true h n stack inside = elim (cases_Bool (n == h)) [
  | inl same ↦ rw same refl
  | inr other ↦ rw other inside
]
in_opened false h n stack inside = inside

on_top : (holds : Bool) (h n : ℕ) (stack : List ℕ) → IsTrue holds → n ≡ h → is_in h (opened holds n stack) ≡ true
on_top true h n stack is same = rw (eq-eqb n h same) refl
on_top false h n stack is same = cc

-- ---- the calls one after another

abbrev AreOpen : List Call → List ℕ → Type 0
AreOpen before stack = (h : ℕ) → MayHold before h → is_in h stack ≡ true

next_open : (before : List Call) (call : Call) (stack : List ℕ) (n : ℕ) → AreOpen before stack → AreBelow (n + 1) stack → call.ordinal ≡ n + 1 → is_in call.holder stack ≡ true
    → AreOpen (before ++ call ∷ []) (opened (holds_calls call.op) (n + 1) (down_to call.holder stack))
next_open before call stack n are below ordinal holder = λ (h : ℕ) (may : MayHold (before ++ call ∷ []) h). elim may [
  | inl main ↦ in_opened (holds_calls call.op) h (n + 1) (down_to call.holder stack) (in_down h call.holder (n + 1) stack below (are h (inl main)) holder (omega arith))
  | inr is ↦ elim (open_last call before h is) [
    | inl this ↦ on_top (holds_calls call.op) h (n + 1) (down_to call.holder stack) this.1 (sym ordinal ∙ this.0)
    | inr earlier ↦ in_opened (holds_calls call.op) h (n + 1) (down_to call.holder stack) (in_down h call.holder (n + 1) stack below (are h (inr earlier.0)) holder earlier.1)
  ]
]

stacked_after : (whole before calls : List Call) (stack : List ℕ) (n : ℕ) → AreNested whole → whole ≡ before ++ calls → AreOpen before stack → AreBelow (n + 1) stack → AreCallsAfter n calls
    → AreStacked stack n calls
stacked_after whole before [] stack n nested parts are below calls_are = tt
stacked_after whole before (call ∷ calls) stack n nested parts are below calls_are =
    let holder : is_in call.holder stack ≡ true = are call.holder (nested before calls call parts) in
    let ordinal : call.ordinal ≡ n + 1 = calls_are.0.0 in (
      ordinal,
      holder,
      calls_are.0.2,
      stacked_after whole (before ++ call ∷ []) calls (opened (holds_calls call.op) (n + 1) (down_to call.holder stack)) (n + 1) nested
          (parts ∙ sym (append_assoc before (call ∷ []) calls))
          (next_open before call stack n are below ordinal holder)
          (opened_below (holds_calls call.op) (n + 1) (down_to call.holder stack) (down_below (n + 1) call.holder stack below))
          calls_are.1,
    )

pub stacked : (calls : List Call) → AreNested calls → AreCallsAfter 0 calls → AreStacked (0 ∷ []) 0 calls
stacked calls nested are =
    let main = λ (h : ℕ) (may : MayHold [] h). elim may as (λ _. is_in h (0 ∷ []) ≡ true) [
      | inl zero_is ↦ rw (eq-eqb 0 h (sym zero_is)) refl
      | inr is ↦ absurd (open_none h is)
    ] in
    let positive : 0 < 0 + 1 = omega arith in
    stacked_after calls [] calls (0 ∷ []) 0 nested refl main (positive, tt) are
