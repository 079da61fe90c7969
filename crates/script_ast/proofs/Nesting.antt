-- Lists of calls that lie in one another, put together from their parts.
use Rattle.std.proofs.Common.{◌≡◌, ◌≤◌, ℕ, List, [], ◌∷◌, ◌++◌, ◌⊎◌, inl, inr, refl, sym, subst, ap, ◌∙◌, append_assoc, arith}
use Rattle.std.specs.Prelude.{All, IsTrue}
use Rattle.std.proofs.lemmas.List.{append-nil}
use Rattle.std.proofs.lemmas.List.Elements.{All-nil, All-cons, All-append, All-weaker}
use Rattle.script_ast.specs.Holders.{holds_calls, IsOpen, MayHold, AreNested}
use Rattle.script_ast.specs.declared.call_list.Call.{Call}

-- the holder of a call, and those of calls, are at or past this one
abbrev pub IsPast : ℕ → Call → Type 0
IsPast holder call = holder ≤ call.holder

abbrev pub ArePast : ℕ → List Call → Type 0
ArePast holder calls = All (IsPast holder) calls

-- each of the calls may have its holder, where they come after the first ones
abbrev pub AreNestedAfter : List Call → List Call → Type 0
AreNestedAfter before [] = Unit {0}
AreNestedAfter before (call ∷ calls) = MayHold before call.holder × AreNestedAfter (before ++ call ∷ []) calls

-- the calls of one list, with those that they hold
pub record IsBlock (holder : ℕ) (calls : List Call) : Type 0 where
  pub past : ArePast holder calls
  pub nested : (before : List Call) → MayHold before holder → AreNestedAfter before calls

-- ---- which call is open

still_open : (before calls : List Call) (holder : ℕ) → MayHold before holder → ArePast holder calls → MayHold (before ++ calls) holder
still_open before calls holder (inl main) past = inl main
still_open before calls holder (inr is) past = inr (record {
  before = is.before;
  holder = is.holder;
  after = is.after ++ calls;
  parts = ap (λ (all : List Call). all ++ calls) is.parts ∙ append_assoc is.before (is.holder ∷ is.after) calls;
  number = is.number;
  holds = is.holds;
  enclosed = All-append (IsPast holder) is.after calls is.enclosed past;
})

now_open : (before : List Call) (call : Call) → IsTrue (holds_calls call.op) → MayHold (before ++ call ∷ []) call.ordinal
now_open before call holds = inr (record {
  before = before;
  holder = call;
  after = [];
  parts = refl;
  number = refl;
  holds = holds;
  enclosed = All-nil (IsPast call.ordinal);
})

open_at : (call : Call) (calls before after : List Call) (holder : Call) (ordinal : ℕ) → call ∷ calls ≡ before ++ holder ∷ after
    → holder.ordinal ≡ ordinal → IsTrue (holds_calls holder.op) → ArePast ordinal after
    → ((call.ordinal ≡ ordinal) × IsTrue (holds_calls call.op) × ArePast ordinal calls) ⊎ IsOpen calls ordinal
open_at call calls [] after holder ordinal parts number holds enclosed =
    let same : call ≡ holder = cc in
    let rest : calls ≡ after = cc in
    inl (rw (same, rest) (number, holds, enclosed))
open_at call calls (x ∷ before) after holder ordinal parts number holds enclosed = inr (record {
  before = before;
  holder = holder;
  after = after;
  parts = cc;
  number = number;
  holds = holds;
  enclosed = enclosed;
})

-- of a list the first call is open, or one after it
pub open_first : (call : Call) (calls : List Call) (ordinal : ℕ) → IsOpen (call ∷ calls) ordinal
    → ((call.ordinal ≡ ordinal) × IsTrue (holds_calls call.op) × ArePast ordinal calls) ⊎ IsOpen calls ordinal
open_first call calls ordinal is = open_at call calls is.before is.after is.holder ordinal is.parts is.number is.holds is.enclosed

open_none_at : (before after : List Call) (holder : Call) → [] ≡ before ++ holder ∷ after → ⊥
open_none_at [] after holder parts = cc
open_none_at (x ∷ before) after holder parts = cc

-- where there is no call, none is open
pub open_none : (ordinal : ℕ) → IsOpen [] ordinal → ⊥
open_none ordinal is = open_none_at is.before is.after is.holder is.parts

-- ---- lists of calls

append_nested : (before xs ys : List Call) → AreNestedAfter before xs → AreNestedAfter (before ++ xs) ys → AreNestedAfter before (xs ++ ys)
append_nested before [] ys first second = subst (λ (b : List Call). AreNestedAfter b ys) (append-nil before) second
append_nested before (x ∷ xs) ys first second =
    (first.0, append_nested (before ++ x ∷ []) xs ys first.1 (subst (λ (b : List Call). AreNestedAfter b ys) (sym (append_assoc before (x ∷ []) xs)) second))

-- a list without a call
pub none_block : (holder : ℕ) → IsBlock holder []
none_block holder = record { past = All-nil (IsPast holder); nested = λ before may. tt }

module _ (holder : ℕ) (call : Call) (held rest : List Call) (is : call.holder ≡ holder) (later : holder ≤ call.ordinal)
    (none_or : (held ≡ []) ⊎ IsTrue (holds_calls call.op)) (inner : IsBlock call.ordinal held) (outer : IsBlock holder rest) where
  first_past : ArePast holder (call ∷ [])
  first_past = All-cons (IsPast holder) call [] (omega arith) (All-nil (IsPast holder))

  held_past : ArePast holder held
  held_past = All-weaker (IsPast call.ordinal) (IsPast holder) (λ (c : Call) (h : call.ordinal ≤ c.holder). omega arith) held inner.past

  held_nested : (before : List Call) → AreNestedAfter (before ++ call ∷ []) held
  held_nested before = elim none_or [
    | inl none ↦ rw none tt
    | inr holds ↦ inner.nested (before ++ call ∷ []) (now_open before call holds)
  ]

  rest_nested : (before : List Call) → MayHold before holder → AreNestedAfter ((before ++ call ∷ []) ++ held) rest
  rest_nested before may = outer.nested ((before ++ call ∷ []) ++ held)
      (still_open (before ++ call ∷ []) held holder (still_open before (call ∷ []) holder may first_past) held_past)

  -- a call, those that it holds, and then the rest of its list
  pub next_block : IsBlock holder (call ∷ held ++ rest)
  next_block = record {
    past = All-append (IsPast holder) (call ∷ []) (held ++ rest) first_past (All-append (IsPast holder) held rest held_past outer.past);
    nested = λ (before : List Call) (may : MayHold before holder). (rw is may, append_nested (before ++ call ∷ []) held rest (held_nested before) (rest_nested before may));
  }

-- ---- all calls

nested_at : (first before after calls : List Call) (call : Call) → AreNestedAfter first calls → calls ≡ before ++ call ∷ after → MayHold (first ++ before) call.holder
nested_at first [] after [] call nested parts = cc
nested_at first [] after (c ∷ calls) call nested parts =
    let same : c ≡ call = cc in
    rw (append-nil first, ← same) (nested.0)
nested_at first (x ∷ before) after [] call nested parts = cc
nested_at first (x ∷ before) after (c ∷ calls) call nested parts =
    let same : c ≡ x = cc in
    let rest : calls ≡ before ++ call ∷ after = cc in
    let inner = nested_at (first ++ c ∷ []) before after calls call nested.1 rest in
    rw (← same) (subst (λ (b : List Call). MayHold b call.holder) (append_assoc first (c ∷ []) before) inner)

pub are_nested : (calls : List Call) → AreNestedAfter [] calls → AreNested calls
are_nested calls nested = λ (before after : List Call) (call : Call) (parts : calls ≡ before ++ call ∷ after). nested_at [] before after calls call nested parts

-- the calls of the main list, with those that they hold
pub block_nested : (calls : List Call) → IsBlock 0 calls → AreNested calls
block_nested calls block = are_nested calls (block.nested [] (inl refl))
