-- The text of a pruned script nests no deeper than that of the whole script, so that it is read again.
use Rattle.std.proofs.Common.{◌≡◌, ◌≤◌, ◌==◌, ◌&&◌, ℕ, suc, ℤ, List, [], ◌∷◌, map, Bool, true, false, cond, inl, inr, refl, sym, ap, ap₂, subst, ◌∙◌, arith}
use Rattle.std.proofs.lemmas.Bool.{eqb-true, eq-eqb}
use Rattle.serde_json.specs.Data.{Items, no_items, item, depth, items_depth}
use Rattle.law_base.specs.Members.{IsIn}
use Rattle.wa_base.specs.declared.contexts.ContextSpec.{ContextSpec}
use Rattle.script_ast.specs.WellFormed.{AreCallsAfter}
use Rattle.script_ast.specs.declared.call_list.Call.{Call}
use Rattle.script_ast.specs.declared.call_list.Script.{Script}
use Rattle.script_ast.specs.declared.operations.Op.{Op}
use Rattle.script_ast.specs.declared.operations.Op.TheVariants as op
use Rattle.script_text.specs.Laws.{ScriptTextLaw, ReadTextableLaw}
use Rattle.script_text.specs.Text.{call_data, held_calls, data_of}
use Rattle.transcript.specs.declared.lines.Line.{Line}
use Rattle.prune.proofs.Members.{IsIn-map}
use Rattle.prune_script.proofs.Forming.{pruned_well_formed}
use Rattle.prune_script.specs.Pruned.{accepted_calls, connections, is_live, heard_calls, kept_calls, renumbered, pruned}
use Rattle.prune_top.specs.Laws.{PrunedTextLaw}
use Rattle.prune_top.proofs.Kept.{not_eqb, grown, kept, place, place_zero, IsOrdinal, one_ordinal, holder_ordinal}
use Rattle.prune_top.proofs.Lists.{is_among}
use Rattle.prune_top.proofs.Sounding.{pruned_context}

at_most : {n : ℕ} → n ≤ n
at_most = omega arith

-- ---- calls that hold calls

-- how deep the calls nest that a call's text holds
abbrev held_depth : Items → ℕ
held_depth no_items = 0
held_depth (item d ds) = suc (items_depth (item d ds))

held_most : (ds : Items) → held_depth ds ≤ suc (items_depth ds)
held_most no_items = omega arith
held_most (item d ds) = omega arith

items_most : (xs ys : Items) → held_depth xs ≤ held_depth ys → items_depth xs ≤ items_depth ys
items_most no_items ys less = omega arith
items_most (item d ds) no_items less = absurd (omega arith)
items_most (item d ds) (item e es) less = omega arith

suspend_most : (rate : ℕ) (time : ℤ) (xs ys : Items) → held_depth xs ≤ held_depth ys → depth (call_data rate xs (op.Suspend time)) ≤ depth (call_data rate ys (op.Suspend time))
suspend_most rate time no_items no_items less = at_most
suspend_most rate time no_items (item e es) less = omega arith
suspend_most rate time (item d ds) no_items less = absurd (omega arith)
suspend_most rate time (item d ds) (item e es) less = omega arith

start_most : (rate : ℕ) (xs ys : Items) → held_depth xs ≤ held_depth ys → depth (call_data rate xs op.StartRendering) ≤ depth (call_data rate ys op.StartRendering)
start_most rate no_items no_items less = at_most
start_most rate no_items (item e es) less = omega arith
start_most rate (item d ds) no_items less = absurd (omega arith)
start_most rate (item d ds) (item e es) less = omega arith

-- a call nests no deeper where the calls that it holds nest no deeper
call_most : (rate : ℕ) (xs ys : Items) (o : Op) → held_depth xs ≤ held_depth ys → depth (call_data rate xs o) ≤ depth (call_data rate ys o)
call_most rate xs ys (op.Suspend time) less = suspend_most rate time xs ys less
call_most rate xs ys op.StartRendering less = start_most rate xs ys less
call_most rate xs ys other less = at_most

-- ---- lists of calls

module _ (rate : ℕ) where
  skipped : (h : ℕ) (call : Call) (calls : List Call) → (call.holder == h) ≡ false → held_calls rate h (call ∷ calls) ≡ held_calls rate h calls
  unfolding held_calls
  skipped h call calls other = rw other refl

  taken : (h : ℕ) (call : Call) (calls : List Call) → (call.holder == h) ≡ true
      → held_calls rate h (call ∷ calls) ≡ item (call_data rate (held_calls rate call.ordinal calls) call.op) (held_calls rate h calls)
  unfolding held_calls
  taken h call calls same = rw same refl

  nothing : (h : ℕ) → held_calls rate h [] ≡ no_items
  unfolding held_calls
  nothing h = refl

  -- in each list the first calls nest no deeper than the others
  abbrev NestLess : List Call → List Call → Type 0
  NestLess xs ys = (h : ℕ) → held_depth (held_calls rate h xs) ≤ held_depth (held_calls rate h ys)

  with_call : (call : Call) (xs ys : List Call) → NestLess xs ys → NestLess (call ∷ xs) (call ∷ ys)
  with_call call xs ys less h = by_test (call.holder == h) refl
    where
      by_test : (b : Bool) → (call.holder == h) ≡ b → held_depth (held_calls rate h (call ∷ xs)) ≤ held_depth (held_calls rate h (call ∷ ys))
      by_test true same =
          let this = call_most rate (held_calls rate call.ordinal xs) (held_calls rate call.ordinal ys) call.op (less call.ordinal) in
          let rest = items_most (held_calls rate h xs) (held_calls rate h ys) (less h) in
          rw (taken h call xs same, taken h call ys same) (omega (arith, this, rest))
      by_test false other = rw (skipped h call xs other, skipped h call ys other) (less h)

  without_call : (call : Call) (xs ys : List Call) → NestLess xs ys → NestLess xs (call ∷ ys)
  without_call call xs ys less h = by_test (call.holder == h) refl
    where
      by_test : (b : Bool) → (call.holder == h) ≡ b → held_depth (held_calls rate h xs) ≤ held_depth (held_calls rate h (call ∷ ys))
      by_test true same =
          let l = less h in
          let most = held_most (held_calls rate h ys) in
          rw (taken h call ys same) (omega (arith, l, most))
      by_test false other = rw (skipped h call ys other) (less h)

  -- what is kept nests no deeper
  kept_less : (heard holders : List ℕ) (calls : List Call) → NestLess (kept_calls heard holders calls) calls
  kept_less heard holders [] h = at_most
  kept_less heard holders (x ∷ xs) h = by_test (is_among x.ordinal heard && is_among x.holder holders) (kept_less heard (grown heard holders x) xs) (kept_less heard holders xs) h
    where
      by_test : (b : Bool) → NestLess (kept_calls heard (grown heard holders x) xs) xs → NestLess (kept_calls heard holders xs) xs
          → NestLess (cond b (x ∷ kept_calls heard (grown heard holders x) xs) (kept_calls heard holders xs)) (x ∷ xs)
      by_test true more same = with_call x (kept_calls heard (grown heard holders x) xs) xs more
      by_test false more same = without_call x (kept_calls heard holders xs) xs same

  -- ---- calls with other numbers

  module _ (number : ℕ → ℕ) (IsNumbered : ℕ → Type 0) (one : (a b : ℕ) → IsNumbered a → IsNumbered b → number a ≡ number b → a ≡ b) where
    abbrev changed : Call → Call
    changed call = record call { ordinal = number call.ordinal; holder = number call.holder }

    abbrev AreNumbered : List Call → Type 0
    AreNumbered calls = (c : Call) → IsIn c calls → IsNumbered c.ordinal × IsNumbered c.holder

    -- calls that are numbered anew, each number by another one, hold the same calls
    same_held : (h : ℕ) (calls : List Call) → IsNumbered h → AreNumbered calls → held_calls rate (number h) (map changed calls) ≡ held_calls rate h calls
    same_held h [] numbered are = nothing (number h) ∙ sym (nothing h)
    same_held h (c ∷ cs) numbered are = by_test (c.holder == h) refl (same_held c.ordinal cs (are c (inl refl)).0 (λ d k. are d (inr k))) (same_held h cs numbered (λ d k. are d (inr k)))
      where
        by_test : (b : Bool) → (c.holder == h) ≡ b → held_calls rate (number c.ordinal) (map changed cs) ≡ held_calls rate c.ordinal cs → held_calls rate (number h) (map changed cs) ≡ held_calls rate h cs
            → held_calls rate (number h) (map changed (c ∷ cs)) ≡ held_calls rate h (c ∷ cs)
        by_test true same inner rest =
            taken (number h) (changed c) (map changed cs) (eq-eqb (number c.holder) (number h) (ap number (eqb-true c.holder h same)))
            ∙ ap₂ (λ held after. item (call_data rate held c.op) after) inner rest
            ∙ sym (taken h c cs same)
        by_test false other inner rest =
            skipped (number h) (changed c) (map changed cs) (not_eqb (number c.holder) (number h) (λ e. let t = eq-eqb c.holder h (one c.holder h (are c (inl refl)).1 numbered e) in absurd cc))
            ∙ rest ∙ sym (skipped h c cs other)

-- ---- the pruned calls

pruned_less : (rate : ℕ) (heard : List ℕ) (calls : List Call) (after : AreCallsAfter 0 calls)
    → held_depth (held_calls rate 0 (map (renumbered (kept heard calls after)) (kept heard calls after))) ≤ held_depth (held_calls rate 0 calls)
pruned_less rate heard calls after =
    let its_kept = kept heard calls after in
    let same : held_calls rate 0 (map (renumbered its_kept) its_kept) ≡ held_calls rate 0 its_kept =
    ap (λ n. held_calls rate n (map (renumbered its_kept) its_kept)) (sym (place_zero heard calls after))
    ∙ same_held rate (place heard calls after) (IsOrdinal heard calls after) (one_ordinal heard calls after) 0 its_kept (inl refl)
    (λ c k. (inr (IsIn-map (λ (x : Call). x.ordinal) its_kept c k), holder_ordinal heard calls after c k)) in
    rw same (kept_less rate heard (0 ∷ []) calls 0)

data_less : (context : ContextSpec) (xs ys : List Call) → held_depth (held_calls context.rate 0 xs) ≤ held_depth (held_calls context.rate 0 ys)
    → depth (data_of (record { context = context; calls = xs })) ≤ depth (data_of (record { context = context; calls = ys }))
unfolding data_of
data_less context xs ys less = let items = items_most (held_calls context.rate 0 xs) (held_calls context.rate 0 ys) less in omega (arith, items)

pruned_depth : (script : Script) (lines : List Line) → AreCallsAfter 0 script.calls → depth (data_of (pruned script lines)) ≤ depth (data_of script)
unfolding pruned
pruned_depth script lines after =
    let accepted = accepted_calls script lines in
    let heard = heard_calls (is_live (connections [] accepted)) [] accepted in
    let its_kept = kept heard script.calls after in
    data_less script.context (map (renumbered its_kept) its_kept) script.calls (pruned_less script.context.rate heard script.calls after)

-- ---- the law

-- the text of a pruned script is read again
pub pruned_text : ScriptTextLaw → ReadTextableLaw → PrunedTextLaw
pruned_text text_law textable_law bytes script lines read well supported =
    let whole = textable_law bytes script read well supported in
    let context = sym (pruned_context script lines) in
    let deep = pruned_depth script lines well.calls in
    text_law (pruned script lines) (record {
      well_formed = pruned_well_formed script lines well;
      rate_low = subst (λ (spec : ContextSpec). 8000 ≤ spec.rate) context whole.rate_low;
      rate_high = subst (λ (spec : ContextSpec). spec.rate ≤ 96000) context whole.rate_high;
      nesting = let most = whole.nesting in omega (arith, deep, most);
    })
