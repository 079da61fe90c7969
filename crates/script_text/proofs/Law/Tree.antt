-- The calls of a text lie in one another as those of the script: read in document order they are the script's, each with those that it holds.
use Rattle.std.proofs.Common.{◌≡◌, ◌<◌, ◌≤◌, ◌+◌, ◌==◌, ℕ, zero, suc, List, [], ◌∷◌, ◌++◌, length, Bool, true, false, inl, inr, refl, sym, ap, subst, ◌∙◌, arith, append_assoc, append-nil, length-append, eqb-true, eq-eqb, ne_eqb}
use Rattle.std.specs.Prelude.{⊤, if◌then◌else◌}
use Rattle.std.proofs.lemmas.Bool.{cases_Bool}
use Rattle.serde_json.specs.Data.{Data, Items, no_items, item}
use Rattle.script_ast.specs.Holders.{holds_calls}
use Rattle.script_ast.specs.Operations.{IsInRange}
use Rattle.script_ast.specs.declared.call_list.Call.{Call}
use Rattle.script_ast.specs.declared.operations.Op.{Op}
use Rattle.script_json.specs.Calls.{Placed, placed, held_by}
use Rattle.script_json.specs.Reading.{placed_at}
use Rattle.script_text.specs.Text.{call_data, held_calls}
use Rattle.script_text.proofs.Law.Calls.{read_op}

-- ---- the calls that are open

-- the number is one of these
abbrev pub is_in : ℕ → List ℕ → Bool
is_in h [] = false
is_in h (s ∷ stack) = if s == h then true else is_in h stack

-- these from the number on
abbrev pub down_to : ℕ → List ℕ → List ℕ
down_to h [] = []
down_to h (s ∷ stack) = if s == h then s ∷ stack else down_to h stack

-- with the call where it holds calls
abbrev pub opened : Bool → ℕ → List ℕ → List ℕ
opened holds n stack = if holds then n ∷ stack else stack

-- each is below the one before it, and the first below the number
abbrev pub AreBelow : ℕ → List ℕ → Type 0
AreBelow n [] = ⊤
AreBelow n (s ∷ stack) = (s < n) × AreBelow s stack

-- the calls after the first n have their ordinals, are in range, and each has a holder that is open at it; the open ones stand innermost first
abbrev pub AreStacked : List ℕ → ℕ → List Call → Type 0
AreStacked stack n [] = ⊤
AreStacked stack n (call ∷ calls) =
    (call.ordinal ≡ n + 1) × (is_in call.holder stack ≡ true) × IsInRange call.op × AreStacked (opened (holds_calls call.op) (n + 1) (down_to call.holder stack)) (n + 1) calls

below_more : (m n : ℕ) (stack : List ℕ) → m ≤ n → AreBelow m stack → AreBelow n stack
below_more m n [] h b = tt
below_more m n (s ∷ stack) h b = (omega (arith, b.0), b.1)

not_in : (h : ℕ) (stack : List ℕ) → AreBelow h stack → is_in h stack ≡ false
not_in h [] b = refl
not_in h (s ∷ stack) b = rw (ne_eqb s h (λ e. omega (arith, b.0))) (not_in h stack (below_more s h stack (omega (arith, b.0)) b.1))

-- a number above all is not below the holder
pub down_below : (n h : ℕ) (stack : List ℕ) → AreBelow n stack → AreBelow n (down_to h stack)
down_below n h [] b = tt
down_below n h (s ∷ stack) b = elim (cases_Bool (s == h)) [
  | inl same ↦ rw same b
  | inr other ↦ rw other (down_below n h stack (below_more s n stack (omega (arith, b.0)) b.1))
]

pub opened_below : (holds : Bool) (n : ℕ) (stack : List ℕ) → AreBelow n stack → AreBelow (n + 1) (opened holds n stack)
opened_below true n stack b = (omega arith, b)
opened_below false n stack b = below_more n (n + 1) stack (omega arith) b

-- ---- lists that hold nothing

-- no call has this holder, where it is not open and is no later call
module _ (rate : ℕ) where
  pub skipped : (h : ℕ) (call : Call) (calls : List Call) → (call.holder == h) ≡ false → held_calls rate h (call ∷ calls) ≡ held_calls rate h calls
  unfolding held_calls
  skipped h call calls other = rw other refl

  pub taken : (h : ℕ) (call : Call) (calls : List Call) → (call.holder == h) ≡ true
      → held_calls rate h (call ∷ calls) ≡ item (call_data rate (held_calls rate call.ordinal calls) call.op) (held_calls rate h calls)
  unfolding held_calls
  taken h call calls same = rw same refl

  pub nothing : (h : ℕ) → held_calls rate h [] ≡ no_items
  unfolding held_calls
  nothing h = refl

  -- a holder that is open is another than one that is not
  is_other : (h g : ℕ) (stack : List ℕ) → is_in h stack ≡ false → is_in g stack ≡ true → (g == h) ≡ false
  is_other h g stack out inside = ne_eqb g h (λ e. let no : is_in g stack ≡ false = rw e out in cc)

  down_out : (h g : ℕ) (stack : List ℕ) → is_in h stack ≡ false → is_in h (down_to g stack) ≡ false
  down_out h g [] out = refl
  down_out h g (s ∷ stack) out = elim (cases_Bool (s == g)) [
    | inl same ↦ rw same out
    | inr other ↦ rw other (down_out h g stack (rest_out (s == h) (is_in h stack) out))
  ]
    where
      rest_out : (b c : Bool) → (if b then true else c) ≡ false → c ≡ false
      rest_out true c e = cc
      rest_out false c e = e

  opened_out : (holds : Bool) (h n : ℕ) (stack : List ℕ) → h < n → is_in h stack ≡ false → is_in h (opened holds n stack) ≡ false
  opened_out true h n stack less out = rw (ne_eqb n h (λ e. omega arith)) out
  opened_out false h n stack less out = out

  none_held : (h n : ℕ) (stack : List ℕ) (calls : List Call) → h ≤ n → is_in h stack ≡ false → AreStacked stack n calls → held_calls rate h calls ≡ no_items
  none_held h n stack [] early out stacked = nothing h
  none_held h n stack (call ∷ calls) early out stacked =
      let less : h < n + 1 = omega arith in
      skipped h call calls (is_other h call.holder stack out (stacked.1))
      ∙ none_held h (n + 1) (opened (holds_calls call.op) (n + 1) (down_to call.holder stack)) calls (omega arith)
      (opened_out (holds_calls call.op) h (n + 1) (down_to call.holder stack) less (down_out h call.holder stack out)) (stacked.3)

  -- ---- the calls in document order

  -- the calls as they are placed, each with the calls that it holds of those after it
  abbrev pub places : List Call → List Placed
  places [] = []
  places (call ∷ calls) = placed_at call.ordinal call.holder (call_data rate (held_calls rate call.ordinal calls) call.op) ∷ places calls

  -- the calls begin with those of one list, with those that they hold, and then come others, whose holders lie outside
  record IsSplit (h : ℕ) (stack : List ℕ) (n : ℕ) (calls : List Call) : Type 0 where
    rest : List Call
    parts : places calls ≡ placed (held_calls rate h calls) n h ++ places rest
    stacked : AreStacked stack (n + length (placed (held_calls rate h calls) n h)) rest
    others : (g : ℕ) → g < h → held_calls rate g calls ≡ held_calls rate g rest
    shorter : length rest ≤ length calls

  placed_none : (n h : ℕ) → placed no_items n h ≡ []
  unfolding placed
  placed_none n h = refl

  placed_next : (d : Data) (ds : Items) (n h : ℕ) → placed (item d ds) n h ≡ placed_at (n + 1) h d ∷ (held_by d (n + 1) ++ placed ds (n + 1 + length (held_by d (n + 1))) h)
  unfolding placed
  placed_next d ds n h = refl

  -- a call of the list, those that it holds, and then the rest of the list
  module _ (h n p : ℕ) (call : Call) (calls mid : List Call) (held : List Placed) (ordinal : call.ordinal ≡ n + 1) (holder : call.holder ≡ h)
      (held_is : held_by (call_data rate (held_calls rate call.ordinal calls) call.op) (n + 1) ≡ held) (same : held_calls rate h calls ≡ held_calls rate h mid) (count : n + 1 + length held ≡ p) where
    list_is : placed (held_calls rate h (call ∷ calls)) n h ≡ placed_at (n + 1) h (call_data rate (held_calls rate call.ordinal calls) call.op) ∷ (held ++ placed (held_calls rate h mid) p h)
    list_is =
        ap (λ (ds : Items). placed ds n h) (taken h call calls (eq-eqb call.holder h holder))
        ∙ placed_next (call_data rate (held_calls rate call.ordinal calls) call.op) (held_calls rate h calls) n h
        ∙ (λ t. placed_at (n + 1) h (call_data rate (held_calls rate call.ordinal calls) call.op) ∷ (held_is t ++ placed (same t) (n + 1 + length (held_is t)) h))
        ∙ ap (λ (q : ℕ). placed_at (n + 1) h (call_data rate (held_calls rate call.ordinal calls) call.op) ∷ (held ++ placed (held_calls rate h mid) q h)) count

    count_is : n + length (placed (held_calls rate h (call ∷ calls)) n h) ≡ p + length (placed (held_calls rate h mid) p h)
    count_is =
        let e : length (placed (held_calls rate h (call ∷ calls)) n h) ≡ suc (length (held ++ placed (held_calls rate h mid) p h)) = ap length list_is in
        omega (arith, e, length-append held (placed (held_calls rate h mid) p h))

    parts_are : (rest : List Call) → places calls ≡ held ++ places mid → places mid ≡ placed (held_calls rate h mid) p h ++ places rest
        → places (call ∷ calls) ≡ placed (held_calls rate h (call ∷ calls)) n h ++ places rest
    parts_are rest first second =
        let tail : places calls ≡ (held ++ placed (held_calls rate h mid) p h) ++ places rest =
        first ∙ ap (λ (l : List Placed). held ++ l) second ∙ sym (append_assoc held (placed (held_calls rate h mid) p h) (places rest)) in
        (λ t. placed_at (ordinal t) (holder t) (call_data rate (held_calls rate call.ordinal calls) call.op) ∷ tail t)
        ∙ ap (λ (l : List Placed). l ++ places rest) (sym list_is)

  module _ (low : 8000 ≤ rate) (high : rate ≤ 96000) where
    held_if : (n : ℕ) (b : Bool) (held : Items) (o : Op) → IsInRange o → holds_calls o ≡ b → held_by (call_data rate held o) n ≡ (if b then placed held n n else [])
    held_if n b held o range is = (read_op rate low high n held o range).holds ∙ ap (λ (c : Bool). if c then placed held n n else []) is

    -- each list of so many calls at most is split
    abbrev Splits : ℕ → Type 0
    Splits fuel = (h : ℕ) (stack : List ℕ) (n : ℕ) (calls : List Call) → length calls ≤ fuel → h ≤ n → AreBelow h stack → AreStacked (h ∷ stack) n calls → IsSplit h stack n calls

    holding : (fuel : ℕ) (again : Splits fuel) (h : ℕ) (stack : List ℕ) (n : ℕ) (call : Call) (calls : List Call) → length calls ≤ fuel → h ≤ n → AreBelow h stack → call.ordinal ≡ n + 1 → call.holder ≡ h → IsInRange call.op
        → holds_calls call.op ≡ true → AreStacked ((n + 1) ∷ h ∷ stack) (n + 1) calls → IsSplit h stack n (call ∷ calls)
    holding fuel again h stack n call calls enough early below ordinal holder range holds stacked =
        let inner = again (n + 1) (h ∷ stack) (n + 1) calls enough (omega arith) (omega arith, below) stacked in
        let p : ℕ = n + 1 + length (placed (held_calls rate (n + 1) calls) (n + 1) (n + 1)) in
        let later : h ≤ p = omega arith in
        let fewer : length inner.rest ≤ fuel = omega (arith, inner.shorter) in
        let outer = again h stack p inner.rest fewer later below inner.stacked in
        let held_is : held_by (call_data rate (held_calls rate call.ordinal calls) call.op) (n + 1) ≡ placed (held_calls rate (n + 1) calls) (n + 1) (n + 1) =
        held_if (n + 1) true (held_calls rate call.ordinal calls) call.op range holds ∙ ap (λ (o : ℕ). placed (held_calls rate o calls) (n + 1) (n + 1)) ordinal in
        let same : held_calls rate h calls ≡ held_calls rate h inner.rest = inner.others h (omega arith) in
        record {
          rest = outer.rest;
          parts = parts_are h n p call calls inner.rest (placed (held_calls rate (n + 1) calls) (n + 1) (n + 1)) ordinal holder held_is same refl outer.rest inner.parts outer.parts;
          stacked = subst (λ (q : ℕ). AreStacked stack q outer.rest) (sym (count_is h n p call calls inner.rest (placed (held_calls rate (n + 1) calls) (n + 1) (n + 1)) ordinal holder held_is same refl)) outer.stacked;
          others = λ (g : ℕ) (less : g < h).
              skipped g call calls (ne_eqb call.holder g (λ e. omega arith)) ∙ inner.others g (omega arith) ∙ outer.others g less;
          shorter = omega (arith, inner.shorter, outer.shorter);
        }

    alone : (fuel : ℕ) (again : Splits fuel) (h : ℕ) (stack : List ℕ) (n : ℕ) (call : Call) (calls : List Call) → length calls ≤ fuel → h ≤ n → AreBelow h stack → call.ordinal ≡ n + 1 → call.holder ≡ h → IsInRange call.op
        → holds_calls call.op ≡ false → AreStacked (h ∷ stack) (n + 1) calls → IsSplit h stack n (call ∷ calls)
    alone fuel again h stack n call calls enough early below ordinal holder range none stacked =
        let outer = again h stack (n + 1) calls enough (omega arith) below stacked in
        let held_is : held_by (call_data rate (held_calls rate call.ordinal calls) call.op) (n + 1) ≡ [] = held_if (n + 1) false (held_calls rate call.ordinal calls) call.op range none in
        let count : n + 1 + 0 ≡ n + 1 = omega arith in
        record {
          rest = outer.rest;
          parts = parts_are h n (n + 1) call calls calls [] ordinal holder held_is refl count outer.rest refl outer.parts;
          stacked = subst (λ (q : ℕ). AreStacked stack q outer.rest) (sym (count_is h n (n + 1) call calls calls [] ordinal holder held_is refl count)) outer.stacked;
          others = λ (g : ℕ) (less : g < h). skipped g call calls (ne_eqb call.holder g (λ e. omega arith)) ∙ outer.others g less;
          shorter = omega (arith, outer.shorter);
        }

    outside : (h : ℕ) (stack : List ℕ) (n : ℕ) (call : Call) (calls : List Call) → h ≤ n → AreBelow h stack → AreStacked stack n (call ∷ calls) → IsSplit h stack n (call ∷ calls)
    outside h stack n call calls early below stacked =
        let none = none_held h n stack (call ∷ calls) early (not_in h stack below) stacked in
        let empty : placed (held_calls rate h (call ∷ calls)) n h ≡ [] = ap (λ (ds : Items). placed ds n h) none ∙ placed_none n h in
        let count : n ≡ n + length (placed (held_calls rate h (call ∷ calls)) n h) = omega (arith, ap length empty) in
        record {
          rest = call ∷ calls;
          parts = ap (λ (l : List Placed). l ++ places (call ∷ calls)) (sym empty);
          stacked = subst (λ (q : ℕ). AreStacked stack q (call ∷ calls)) count stacked;
          others = λ (g : ℕ) (less : g < h). refl;
          shorter = omega arith;
        }

    mine : (fuel : ℕ) (again : Splits fuel) (h : ℕ) (stack : List ℕ) (n : ℕ) (call : Call) (calls : List Call) → length calls ≤ fuel → h ≤ n → AreBelow h stack → call.ordinal ≡ n + 1 → call.holder ≡ h → IsInRange call.op
        → AreStacked (opened (holds_calls call.op) (n + 1) (h ∷ stack)) (n + 1) calls → IsSplit h stack n (call ∷ calls)
    mine fuel again h stack n call calls enough early below ordinal holder range stacked = elim (cases_Bool (holds_calls call.op)) [
      | inl holds ↦ holding fuel again h stack n call calls enough early below ordinal holder range holds (rw holds at stacked)
      | inr none ↦ alone fuel again h stack n call calls enough early below ordinal holder range none (rw none at stacked)
    ]

    split : (fuel h : ℕ) (stack : List ℕ) (n : ℕ) (calls : List Call) → length calls ≤ fuel → h ≤ n → AreBelow h stack → AreStacked (h ∷ stack) n calls → IsSplit h stack n calls
    split fuel h stack n [] enough early below stacked =
        let empty : placed (held_calls rate h []) n h ≡ [] = ap (λ (ds : Items). placed ds n h) (nothing h) ∙ placed_none n h in
        record { rest = []; parts = ap (λ (l : List Placed). l ++ []) (sym empty); stacked = tt; others = λ (g : ℕ) (less : g < h). refl; shorter = omega arith }
    split zero h stack n (call ∷ calls) enough early below stacked = absurd (omega arith)
    split (suc fuel) h stack n (call ∷ calls) enough early below stacked = elim (cases_Bool (h == call.holder)) [
      | inl same ↦ mine fuel (split fuel) h stack n call calls (omega arith) early below (stacked.0) (sym (eqb-true h call.holder same)) (stacked.2) (rw same at stacked.3)
      | inr other ↦ outside h stack n call calls early below (stacked.0, rw other at stacked.1, stacked.2, rw other at stacked.3)
    ]

    no_rest : (n : ℕ) (calls : List Call) → AreStacked [] n calls → calls ≡ []
    no_rest n [] stacked = refl
    no_rest n (call ∷ calls) stacked = cc (stacked.1)

    -- the calls of the text in document order are those of the script
    pub placed_calls : (calls : List Call) → AreStacked (0 ∷ []) 0 calls → placed (held_calls rate 0 calls) 0 0 ≡ places calls
    placed_calls calls stacked =
        let all = split (length calls) 0 [] 0 calls (omega arith) (omega arith) tt stacked in
        let none = no_rest (0 + length (placed (held_calls rate 0 calls) 0 0)) all.rest all.stacked in
        sym (all.parts ∙ ap (λ (l : List Call). placed (held_calls rate 0 calls) 0 0 ++ places l) none ∙ append-nil (placed (held_calls rate 0 calls) 0 0))
