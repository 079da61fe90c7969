-- What is left of a well-formed script is well formed.
use Rattle.std.proofs.Common.{ℕ, suc, ◌≡◌, ◌+◌, ◌<◌, ◌≤◌, ◌⊎◌, List, [], ◌∷◌, ◌++◌, length, Bool, true, false, inl, inr, refl, sym, ◌∙◌, ap, ap₂, subst, append_assoc, arith}
use Rattle.std.specs.Prelude.{All, IsTrue, ◌==◌}
use Rattle.std.proofs.lemmas.Bool.Decides.{nat_tests}
use Rattle.std.proofs.lemmas.List.{append-nil, length-map, length_push}
use Rattle.std.proofs.lemmas.List.Elements.{All-nil, All-cons, All-head, All-tail, All-push, All-weaker}
use Rattle.law_base.proofs.Tests.{and_parts}
use Rattle.script_ast.specs.Holders.{holds_calls, IsOpen, MayHold, AreNested}
use Rattle.script_ast.specs.WellFormed.{IsCallAt, AreCallsAfter, IsWellFormed}
use Rattle.script_ast.specs.declared.call_list.Call.{Call}
use Rattle.script_ast.specs.declared.call_list.Script.{Script}
use Rattle.transcript.specs.declared.lines.Line.{Line}
use Rattle.prune_script.specs.Pruned.{accepted_calls, connections, is_live, heard_calls, place_in, renumbered, pruned}
use Rattle.prune_script.proofs.Calls.{next_call}
use Rattle.prune_script.proofs.Holding.{is_among, is_kept, kept_of, holders_of, renumbered_all, IsEarly, IsHolding, none_holding, number_of_last, renumbered_push, kept_with, among_after, holding_kept, kept_without, holders_without, holding_without}
use Rattle.prune_script.proofs.Places.{place_of_other, place_of_zero, place_within}

-- ---- lists with one more call

no_end : {X : Type 0} (bs : List X) (y : X) (rest : List X) → [] ≡ bs ++ y ∷ rest → ⊥
no_end [] y rest e = cc
no_end (b ∷ bs) y rest e = cc

split_last : {X : Type 0} (xs : List X) (x : X) (bs : List X) (y : X) (rest : List X) → xs ++ x ∷ [] ≡ bs ++ y ∷ rest
    → ((rest ≡ []) × (bs ≡ xs) × (y ≡ x)) ⊎ ((more : List X) × (rest ≡ more ++ x ∷ []) × (xs ≡ bs ++ y ∷ more))
split_last [] x [] y rest e = inl (cc, refl, cc)
split_last (z ∷ zs) x [] y rest e = inr (zs, cc, (let same : z ≡ y = cc in ap (λ w. w ∷ zs) same))
split_last [] x (b ∷ bs) y rest e = absurd (no_end bs y rest (let t : [] ≡ bs ++ y ∷ rest = cc in t))
split_last (z ∷ zs) x (b ∷ bs) y rest e =
    let tail : zs ++ x ∷ [] ≡ bs ++ y ∷ rest = cc in
    let head : z ≡ b = cc in
    elim (split_last zs x bs y rest tail) [
      | inl k ↦ inl (k.0, ap₂ (λ w ws. w ∷ ws) (sym head) k.1, k.2)
      | inr k ↦ inr (k.0, k.1, ap₂ (λ w ws. w ∷ ws) head k.2)
    ]

all_parts : {X : Type 0} (P : X → Type 0) (xs : List X) (x : X) → All P (xs ++ x ∷ []) → All P xs × P x
all_parts P [] x all = (All-nil P, All-head P x [] all)
all_parts P (y ∷ ys) x all =
    let rest = all_parts P ys x (All-tail P y (ys ++ x ∷ []) all) in
    (All-cons P y ys (All-head P y (ys ++ x ∷ []) all) rest.0, rest.1)

-- which call is open where one more came
open_back : (calls : List Call) (call : Call) (h : ℕ) → IsOpen (calls ++ call ∷ []) h → ((call.ordinal ≡ h) × IsTrue (holds_calls call.op)) ⊎ (IsOpen calls h × (h ≤ call.holder))
open_back calls call h is = elim (split_last calls call is.before is.holder is.after is.parts) [
  | inl k ↦ inl (ap (λ (c : Call). c.ordinal) (sym k.2) ∙ is.number, subst (λ (c : Call). IsTrue (holds_calls c.op)) k.2 is.holds)
  | inr k ↦
      let parts = all_parts (λ (c : Call). h ≤ c.holder) k.0 call (subst (λ cs. All (λ (c : Call). h ≤ c.holder) cs) k.1 is.enclosed) in
      inr (record { before = is.before; holder = is.holder; after = k.0; parts = k.2; number = is.number; holds = is.holds; enclosed = parts.0 }, parts.1)
]

-- a call that is open stays so while the calls are past it
open_on : (calls : List Call) (call : Call) (h : ℕ) → IsOpen calls h → h ≤ call.holder → IsOpen (calls ++ call ∷ []) h
open_on calls call h is past = record {
  before = is.before;
  holder = is.holder;
  after = is.after ++ call ∷ [];
  parts = ap (λ cs. cs ++ call ∷ []) is.parts ∙ append_assoc is.before (is.holder ∷ is.after) (call ∷ []);
  number = is.number;
  holds = is.holds;
  enclosed = All-push (λ (c : Call). h ≤ c.holder) is.after call is.enclosed past;
}

nested_push : (calls : List Call) (call : Call) → AreNested calls → MayHold calls call.holder → AreNested (calls ++ call ∷ [])
nested_push calls call nested may before after c parts = elim (split_last calls call before c after parts) [
  | inl k ↦ subst (λ (b : List Call). MayHold b c.holder) (sym k.1) (subst (λ (x : Call). MayHold calls x.holder) (sym k.2) may)
  | inr k ↦ nested before k.0 c k.2
]

numbered_push : (n : ℕ) (calls : List Call) (call : Call) → AreCallsAfter n calls → IsCallAt (n + length calls + 1) call → AreCallsAfter n (calls ++ call ∷ [])
numbered_push n [] call are is = (let same : n + 0 + 1 ≡ n + 1 = omega arith in subst (λ m. IsCallAt m call) same is, tt)
numbered_push n (first ∷ calls) call are is =
    let same : n + suc (length calls) + 1 ≡ n + 1 + length calls + 1 = omega arith in
    (are.0, numbered_push (n + 1) calls call are.1 (subst (λ m. IsCallAt m call) same is))

-- ---- the kept calls of a front part

pub record IsFormed (heard : List ℕ) (calls : List Call) : Type 0 where
  pub held : IsHolding heard calls
  pub ordered : (a b : ℕ) → a ≤ b → is_among (holders_of heard calls) a ≡ true → is_among (holders_of heard calls) b ≡ true → place_in (kept_of heard calls) a ≤ place_in (kept_of heard calls) b
  pub numbered : AreCallsAfter 0 (renumbered_all (kept_of heard calls))
  pub may_hold : (h : ℕ) → is_among (holders_of heard calls) h ≡ true → MayHold calls h → MayHold (renumbered_all (kept_of heard calls)) (place_in (kept_of heard calls) h)
  pub nested : AreNested (renumbered_all (kept_of heard calls))

none_formed : (heard : List ℕ) → IsFormed heard []
none_formed heard = record {
  held = none_holding heard;
  ordered = λ a b l among among'. omega arith;
  numbered = tt;
  may_hold = λ h among may. inl refl;
  nested = λ before after call parts. absurd (no_end before call after parts);
}

module _ (heard : List ℕ) (calls : List Call) (call : Call) (formed : IsFormed heard calls) (at : IsCallAt (length calls + 1) call) (may : MayHold calls call.holder) where
  abbrev kept : List Call
  kept = kept_of heard calls

  abbrev numbers : List Call
  numbers = renumbered_all kept

  abbrev joined : List Call
  joined = kept ++ call ∷ []

  abbrev new : Call
  new = record call { ordinal = length kept + 1; holder = place_in kept call.holder }

  here : call.ordinal ≡ length calls + 1
  here = at.0

  later : call.holder < call.ordinal
  later = let h = at.0 in let l = at.1 in omega arith

  same_place : (h : ℕ) → h < call.ordinal → place_in joined h ≡ place_in kept h
  same_place h l = place_of_other kept call h (let e : (call.ordinal == h) ≡ false = grind (arith, nat_tests) in e)

  -- ---- where the call is kept

  module _ (is : is_kept heard (holders_of heard calls) call ≡ true) where
    with_call : kept_of heard (calls ++ call ∷ []) ≡ joined
    with_call = kept_with heard calls call formed.held here later is

    numbers_with : renumbered_all joined ≡ numbers ++ new ∷ []
    numbers_with = renumbered_push heard calls call formed.held here later

    own_holder : is_among (holders_of heard calls) call.holder ≡ true
    own_holder = (and_parts (is_among heard call.ordinal) (is_among (holders_of heard calls) call.holder) is).1

    among : (h : ℕ) → is_among (holders_of heard (calls ++ call ∷ [])) h ≡ true → (h ≡ call.ordinal) ⊎ (is_among (holders_of heard calls) h ≡ true)
    among = among_after heard calls call formed.held here later is

    some : All (λ (c : Call). 0 < c.ordinal) joined
    some = subst (λ cs. All (λ (c : Call). 0 < c.ordinal) cs) with_call
        (All-weaker (IsEarly (length (calls ++ call ∷ []))) (λ (c : Call). 0 < c.ordinal) (λ c early. let l = early.1 in omega arith) (kept_of heard (calls ++ call ∷ [])) (holding_kept heard calls call formed.held here later is).kept)

    ordered_with : (a b : ℕ) → a ≤ b → is_among (holders_of heard (calls ++ call ∷ [])) a ≡ true → is_among (holders_of heard (calls ++ call ∷ [])) b ≡ true → place_in joined a ≤ place_in joined b
    ordered_with a b l among_a among_b = elim (among b among_b) [
      | inl e ↦
          let last : place_in joined b ≡ length kept + 1 = ap (place_in joined) e ∙ number_of_last heard calls call formed.held here later in
          let within = place_within joined a in let n = length_push kept call in omega arith
      | inr old ↦
          let low : b ≤ length calls = formed.held.holders b old in
          elim (among a among_a) [
            | inl e ↦ let h = here in absurd (omega arith)
            | inr old_a ↦
                let below = formed.ordered a b l old_a old in
                let same_a = same_place a (let h = here in omega arith) in
                let same_b = same_place b (let h = here in omega arith) in omega arith
          ]
    ]

    may_with : (h : ℕ) → is_among (holders_of heard (calls ++ call ∷ [])) h ≡ true → MayHold (calls ++ call ∷ []) h → MayHold (numbers ++ new ∷ []) (place_in joined h)
    may_with h among_h (inl zero) = inl (ap (place_in joined) zero ∙ place_of_zero joined some)
    may_with h among_h (inr is_open) = elim (open_back calls call h is_open) [
      | inl k ↦ inr (record {
        before = numbers;
        holder = new;
        after = [];
        parts = refl;
        number = sym (ap (place_in joined) (sym k.0) ∙ number_of_last heard calls call formed.held here later);
        holds = k.1;
        enclosed = All-nil (λ (c : Call). place_in joined h ≤ c.holder);
      })
      | inr k ↦
          let below : h < call.ordinal = let m = k.1 in let n = later in omega arith in
          let old : is_among (holders_of heard calls) h ≡ true = elim (among h among_h) [ inl e ↦ absurd (omega arith) | inr old ↦ old ] in
          subst (λ n. MayHold (numbers ++ new ∷ []) n) (sym (same_place h below)) (further h k.1 old (formed.may_hold h old (inr k.0)))
    ]
      where
        further : (h : ℕ) → h ≤ call.holder → is_among (holders_of heard calls) h ≡ true → MayHold numbers (place_in kept h) → MayHold (numbers ++ new ∷ []) (place_in kept h)
        further h past old (inl zero) = inl zero
        further h past old (inr is_open) = inr (open_on numbers new (place_in kept h) is_open (formed.ordered h call.holder past old own_holder))

    new_at : IsCallAt (0 + length numbers + 1) new
    new_at = (
      let n = length-map kept (renumbered kept) in let e : length kept + 1 ≡ 0 + length numbers + 1 = omega arith in e,
      let n = length-map kept (renumbered kept) in let w = place_within kept call.holder in let l : place_in kept call.holder + 1 ≤ 0 + length numbers + 1 = omega arith in l,
      at.2,
    )

    pub formed_with : IsFormed heard (calls ++ call ∷ [])
    formed_with = record {
      held = holding_kept heard calls call formed.held here later is;
      ordered = subst (λ ks. (a b : ℕ) → a ≤ b → is_among (holders_of heard (calls ++ call ∷ [])) a ≡ true → is_among (holders_of heard (calls ++ call ∷ [])) b ≡ true → place_in ks a ≤ place_in ks b) (sym with_call) ordered_with;
      numbered = subst (λ ks. AreCallsAfter 0 (renumbered_all ks)) (sym with_call) (subst (λ cs. AreCallsAfter 0 cs) (sym numbers_with) (numbered_push 0 numbers new formed.numbered new_at));
      may_hold = subst (λ ks. (h : ℕ) → is_among (holders_of heard (calls ++ call ∷ [])) h ≡ true → MayHold (calls ++ call ∷ []) h → MayHold (renumbered_all ks) (place_in ks h)) (sym with_call)
          (subst (λ cs. (h : ℕ) → is_among (holders_of heard (calls ++ call ∷ [])) h ≡ true → MayHold (calls ++ call ∷ []) h → MayHold cs (place_in joined h)) (sym numbers_with) may_with);
      nested = subst (λ ks. AreNested (renumbered_all ks)) (sym with_call) (subst (λ cs. AreNested cs) (sym numbers_with) (nested_push numbers new formed.nested (formed.may_hold call.holder own_holder may)));
    }

  -- ---- where it is not

  module _ (is : is_kept heard (holders_of heard calls) call ≡ false) where
    without : kept_of heard (calls ++ call ∷ []) ≡ kept
    without = kept_without heard calls call formed.held here later is

    same_holders : holders_of heard (calls ++ call ∷ []) ≡ holders_of heard calls
    same_holders = holders_without heard calls call formed.held here later is

    may_back : (h : ℕ) → is_among (holders_of heard calls) h ≡ true → MayHold (calls ++ call ∷ []) h → MayHold calls h
    may_back h among_h (inl zero) = inl zero
    may_back h among_h (inr is_open) = elim (open_back calls call h is_open) [
      | inl k ↦ let l = formed.held.holders h among_h in let e = k.0 in let n = here in absurd (omega arith)
      | inr k ↦ inr k.0
    ]

    pub formed_without : IsFormed heard (calls ++ call ∷ [])
    formed_without = record {
      held = holding_without heard calls call formed.held here later is;
      ordered = subst (λ ks. (a b : ℕ) → a ≤ b → is_among (holders_of heard (calls ++ call ∷ [])) a ≡ true → is_among (holders_of heard (calls ++ call ∷ [])) b ≡ true → place_in ks a ≤ place_in ks b) (sym without)
          (subst (λ hs. (a b : ℕ) → a ≤ b → is_among hs a ≡ true → is_among hs b ≡ true → place_in kept a ≤ place_in kept b) (sym same_holders) formed.ordered);
      numbered = subst (λ ks. AreCallsAfter 0 (renumbered_all ks)) (sym without) formed.numbered;
      may_hold = subst (λ ks. (h : ℕ) → is_among (holders_of heard (calls ++ call ∷ [])) h ≡ true → MayHold (calls ++ call ∷ []) h → MayHold (renumbered_all ks) (place_in ks h)) (sym without)
          (subst (λ hs. (h : ℕ) → is_among hs h ≡ true → MayHold (calls ++ call ∷ []) h → MayHold numbers (place_in kept h)) (sym same_holders) (λ h among_h m. formed.may_hold h among_h (may_back h among_h m)));
      nested = subst (λ ks. AreNested (renumbered_all ks)) (sym without) formed.nested;
    }

  pub formed_next : IsFormed heard (calls ++ call ∷ [])
  formed_next = by_test (is_kept heard (holders_of heard calls) call) refl
    where
      by_test : (b : Bool) → is_kept heard (holders_of heard calls) call ≡ b → IsFormed heard (calls ++ call ∷ [])
      by_test true is = formed_with is
      by_test false is = formed_without is

formed_after : (heard : List ℕ) (before rest : List Call) → AreCallsAfter 0 (before ++ rest) → AreNested (before ++ rest) → IsFormed heard before → IsFormed heard (before ++ rest)
formed_after heard before [] are nested formed = subst (λ cs. IsFormed heard cs) (sym (append-nil before)) formed
formed_after heard before (call ∷ rest) are nested formed =
    let whole : (before ++ call ∷ []) ++ rest ≡ before ++ call ∷ rest = append_assoc before (call ∷ []) rest in
    let at : IsCallAt (length before + 1) call = let same : 0 + length before + 1 ≡ length before + 1 = omega arith in subst (λ m. IsCallAt m call) same (next_call 0 before rest call are) in
    subst (λ cs. IsFormed heard cs) whole
    (formed_after heard (before ++ call ∷ []) rest (subst (λ cs. AreCallsAfter 0 cs) (sym whole) are) (subst (λ cs. AreNested cs) (sym whole) nested) (formed_next heard before call formed at (nested before rest call refl)))

-- What is left of a well-formed script is well formed.
pub pruned_well_formed : (script : Script) (lines : List Line) → IsWellFormed script → IsWellFormed (pruned script lines)
unfolding pruned
pruned_well_formed script lines well =
    let accepted = accepted_calls script lines in
    let heard = heard_calls (is_live (connections [] accepted)) [] accepted in
    let formed = formed_after heard [] script.calls well.calls well.nested (none_formed heard) in
    record { channels = well.channels; frames = well.frames; rate = well.rate; quantum = well.quantum; calls = formed.numbered; nested = formed.nested }
