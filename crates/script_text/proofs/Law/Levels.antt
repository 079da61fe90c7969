-- A script whose `then` lists have no call with such a list has a text.
use Rattle.std.proofs.Common.{◌≡◌, ◌≤◌, ◌+◌, ◌==◌, ℕ, suc, max, List, [], ◌∷◌, Bool, true, false, inl, inr, sym, ◌∙◌, arith, eqb-true}
use Rattle.std.specs.Prelude.{All, if◌then◌else◌}
use Rattle.std.proofs.lemmas.Bool.{cases_Bool}
use Rattle.std.proofs.lemmas.List.Elements.{All-head, All-tail}
use Rattle.serde_json.specs.Data.{Items, no_items, item, depth, items_depth}
use Rattle.script_ast.specs.Holders.{holds_calls}
use Rattle.script_ast.specs.WellFormed.{AreCallsAfter}
use Rattle.script_ast.specs.declared.call_list.Call.{Call}
use Rattle.script_ast.specs.declared.operations.Op.{Op}
use Rattle.script_text.specs.Laws.{HoldsNoneWithin, TwoLevelsLaw}
use Rattle.script_text.specs.Text.{call_data, held_calls}
use Rattle.script_text.proofs.Law.Nesting.{text_depth}
use Rattle.script_text.proofs.Law.Shallow.{held_depth, has_list, call_depth}
use Rattle.script_text.proofs.Law.Tree.{skipped, taken, nothing}

-- ---- scripts of two levels

base_alone : (b l : Bool) (held : ℕ) → b ≡ false → (if b then held else (if l then 1 else 0)) ≤ 1
base_alone true l held is = cc
base_alone false true held is = omega arith
base_alone false false held is = omega arith

base_any : (b l : Bool) (held : ℕ) → (if b then held else (if l then 1 else 0)) ≤ max 1 held
base_any true l held = omega arith
base_any false true held = omega arith
base_any false false held = omega arith

alone_depth : (rate : ℕ) (held : Items) (o : Op) → holds_calls o ≡ false → depth (call_data rate held o) ≤ 2
alone_depth rate held o none_held = let deep = call_depth rate held o in let most = base_alone (holds_calls o) (has_list o) (held_depth held) none_held in omega (arith, deep, most)

held_top : (ds : Items) → held_depth ds ≤ suc (items_depth ds)
held_top no_items = omega arith
held_top (item d ds) = omega arith

any_depth : (rate : ℕ) (held : Items) (o : Op) → items_depth held ≤ 2 → depth (call_data rate held o) ≤ 4
any_depth rate held o most =
    let deep = call_depth rate held o in
    let base_is = base_any (holds_calls o) (has_list o) (held_depth held) in
    omega (arith, deep, base_is, held_top held)

inner_level : (rate h : ℕ) (calls : List Call) → (h ≡ 0 → ⊥) → All HoldsNoneWithin calls → items_depth (held_calls rate h calls) ≤ 2
inner_level rate h [] some is = rw (nothing rate h) (omega arith)
inner_level rate h (call ∷ calls) some is = elim (cases_Bool (call.holder == h)) [
  | inl same ↦
      let rest = inner_level rate h calls some (All-tail HoldsNoneWithin call calls is) in
      let holds : holds_calls call.op ≡ false = elim (All-head HoldsNoneWithin call calls is) [ inl main ↦ absurd (some (sym (eqb-true call.holder h same) ∙ main)) | inr none_held ↦ none_held ] in
      let this = alone_depth rate (held_calls rate call.ordinal calls) call.op holds in
      rw (taken rate h call calls same) (omega (arith, this, rest))
  | inr other ↦ rw (skipped rate h call calls other) (inner_level rate h calls some (All-tail HoldsNoneWithin call calls is))
]

outer_level : (rate n : ℕ) (calls : List Call) → AreCallsAfter n calls → All HoldsNoneWithin calls → items_depth (held_calls rate 0 calls) ≤ 4
outer_level rate n [] are is = rw (nothing rate 0) (omega arith)
outer_level rate n (call ∷ calls) are is = elim (cases_Bool (call.holder == 0)) [
  | inl same ↦
      let rest = outer_level rate (n + 1) calls are.1 (All-tail HoldsNoneWithin call calls is) in
      let ordinal : call.ordinal ≡ n + 1 = are.0.0 in
      let inner = inner_level rate call.ordinal calls (λ e. omega arith) (All-tail HoldsNoneWithin call calls is) in
      let this = any_depth rate (held_calls rate call.ordinal calls) call.op inner in
      rw (taken rate 0 call calls same) (omega (arith, this, rest))
  | inr other ↦ rw (skipped rate 0 call calls other) (outer_level rate (n + 1) calls are.1 (All-tail HoldsNoneWithin call calls is))
]

-- a script whose `then` lists have no call with such a list has a text
pub two_levels : TwoLevelsLaw
two_levels script well_formed is low high =
    record { well_formed = well_formed; rate_low = low; rate_high = high; nesting = omega (arith, text_depth script, outer_level script.context.rate 0 script.calls well_formed.calls is) }
