-- Writing calls one after another.
use Rattle.std.proofs.Common.{◌≡◌, ◌≤◌, ◌<◌, ◌+◌, ℕ, ℤ, List, [], ◌∷◌, ◌++◌, length, length-append, Bool, true, false, inl, inr, refl, sym, ap, subst, ◌∙◌, append_assoc, append-nil, arith}
use Rattle.std.specs.Prelude.{All}
use Rattle.std.proofs.lemmas.List.Elements.{All-nil, All-cons, All-head, All-append, All-weaker}
use Rattle.json.specs.Print.{quoted}
use Rattle.serde_json.specs.Data.{Items, no_items, item}
use Rattle.serde_json.specs.Written.{comma_if, compact_text, items_text, members_text}
use Rattle.script_ast.specs.Fields.{field_word}
use Rattle.script_ast.specs.Holders.{holds_calls}
use Rattle.script_ast.specs.declared.call_list.Call.{Call}
use Rattle.script_ast.specs.declared.entries.OpName.TheVariants.{Suspend, StartRendering}
use Rattle.script_ast.specs.declared.fields.Field.TheVariants as field
use Rattle.script_ast.specs.declared.operations.Op.{Op}
use Rattle.script_ast.specs.declared.operations.Op.TheVariants as op
use Rattle.script_text.proofs.CallTexts.{call_alone, suspend_text, start_text}
use Rattle.script_text.proofs.Order.{right_part, held_calls-passed, held_calls-first, held_calls-ended, order_after}
use Rattle.script_text.specs.Order.{Follows, AreInOrder, BeginBelow, MayBeginWith, IsAfter, then_text, opened_text}
use Rattle.script_text.specs.Text.{held_calls, call_data}
use Rattle.script_text.specs.Writing.{members_given}
use Rattle.script_text.specs.declared.members.Given.TheVariants as given

-- ---- one call

pub alone_step : (rate : ℕ) (held : Items) (o : Op) (old new : List ℕ) → holds_calls o ≡ false
    → new ≡ old ++ compact_text (call_data rate no_items o) → new ≡ old ++ compact_text (call_data rate held o)
alone_step rate held o old new alone written = written ∙ ap (λ d. old ++ compact_text d) (sym (call_alone rate held o alone))

pub suspend_step : (rate : ℕ) (held : Items) (o : Op) (frames : ℤ) (old opened after new : List ℕ) → o ≡ op.Suspend frames
    → opened ≡ old ++ opened_text Suspend → after ≡ opened ++ then_text held
    → new ≡ after ++ members_text true (members_given rate ((field.Time, given.Time frames) ∷ [])) → new ≡ old ++ compact_text (call_data rate held o)
suspend_step rate held o frames old opened after new is first second third =
    let last = members_text true (members_given rate ((field.Time, given.Time frames) ∷ [])) in
    third ∙ ap (λ s. s ++ last) (second ∙ ap (λ s. s ++ then_text held) first)
    ∙ append_assoc (old ++ opened_text Suspend) (then_text held) last
    ∙ append_assoc old (opened_text Suspend) (then_text held ++ last)
    ∙ ap (λ s. old ++ s) (suspend_text rate held frames)
    ∙ ap (λ p. old ++ compact_text (call_data rate held p)) (sym is)

pub start_step : (rate : ℕ) (held : Items) (o : Op) (old opened after new : List ℕ) → o ≡ op.StartRendering
    → opened ≡ old ++ opened_text StartRendering → after ≡ opened ++ then_text held
    → new ≡ after ++ members_text true (members_given rate []) → new ≡ old ++ compact_text (call_data rate held o)
start_step rate held o old opened after new is first second third =
    let last = members_text true (members_given rate []) in
    third ∙ ap (λ s. s ++ last) (second ∙ ap (λ s. s ++ then_text held) first)
    ∙ append_assoc (old ++ opened_text StartRendering) (then_text held) last
    ∙ append_assoc old (opened_text StartRendering) (then_text held ++ last)
    ∙ ap (λ s. old ++ s) (start_text rate held)
    ∙ ap (λ p. old ++ compact_text (call_data rate held p)) (sym is)

-- ---- which call comes next

pub after_none : (holder : ℕ) (calls : List Call) → IsAfter holder calls calls
after_none holder calls = record { passed = []; parts = refl; within = All-nil (λ (c : Call). holder ≤ c.holder) }

next_below : (call next : Call) → Follows call next → next.holder < call.ordinal → next.holder < call.holder + 1
next_below call next (inl past) below = omega arith
next_below call next (inr within) below = let inner = within.0 in absurd (omega arith)

pub begin_after : (call : Call) (after rest : List Call) → ((n : ℕ) × AreInOrder n (call ∷ after)) → IsAfter call.ordinal after rest
    → BeginBelow call.ordinal rest → BeginBelow (call.holder + 1) rest
begin_after call after [] order is below = tt
begin_after call after (next ∷ rest) (n, order) is below =
    let all = subst (All (Follows call)) is.parts order.2 in
    next_below call next (All-head (Follows call) next rest (right_part (Follows call) is.passed (next ∷ rest) all)) below

next_alone : (call next : Call) → Follows call next → next.holder ≤ call.ordinal → holds_calls call.op ≡ false → next.holder < call.holder + 1
next_alone call next (inl past) early alone = omega arith
next_alone call next (inr within) early alone =
    let inner = within.0 in
    let same : next.holder ≡ call.ordinal = omega arith in
    let holds : holds_calls call.op ≡ true = within.1 same in
    cc

pub begin_alone : (call : Call) (after : List Call) → ((n : ℕ) × AreInOrder n (call ∷ after)) → holds_calls call.op ≡ false → BeginBelow (call.holder + 1) after
begin_alone call [] order alone = tt
begin_alone call (next ∷ after) (n, order) alone =
    let number = order.0 in
    let early = order.3.1 in
    next_alone call next (All-head (Follows call) next after order.2) (omega arith) alone

-- ---- a list

-- where the writer stands in a list: what is written, and what is left of it
abbrev pub IsWritten : ℕ → ℕ → List Call → List Call → Bool → List ℕ → List ℕ → Type 0
IsWritten rate holder calls rest later old out =
    (old ++ items_text false (held_calls rate holder calls) ≡ out ++ items_text later (held_calls rate holder rest))
    × IsAfter holder calls rest × MayBeginWith holder rest × (length rest ≤ length calls)

module _ (rate holder : ℕ) (calls rest after left : List Call) (call : Call) (parts : rest ≡ call ∷ after) (same : call.holder ≡ holder) (is : IsAfter call.ordinal after left) where
  left_same : holder < call.ordinal → held_calls rate holder after ≡ held_calls rate holder left
  left_same early =
      let above = All-weaker (λ (c : Call). call.ordinal ≤ c.holder) (λ (c : Call). holder < c.holder) (λ (c : Call) (h : call.ordinal ≤ c.holder). omega arith) is.passed is.within in
      ap (held_calls rate holder) is.parts ∙ held_calls-passed rate holder is.passed left above

  pub step_text : (later : Bool) (old out comma new : List ℕ) → holder < call.ordinal
      → old ++ items_text false (held_calls rate holder calls) ≡ out ++ items_text later (held_calls rate holder rest)
      → comma ≡ out ++ comma_if later → new ≡ comma ++ compact_text (call_data rate (held_calls rate call.ordinal after) call.op)
      → old ++ items_text false (held_calls rate holder calls) ≡ new ++ items_text true (held_calls rate holder left)
  step_text later old out comma new early before first second =
      let d = call_data rate (held_calls rate call.ordinal after) call.op in
      let next : held_calls rate holder rest ≡ item d (held_calls rate holder left) =
      ap (held_calls rate holder) parts ∙ held_calls-first rate holder call after same ∙ ap (item d) (left_same early) in
      let last = items_text true (held_calls rate holder left) in
      before ∙ ap (λ ds. out ++ items_text later ds) next
      ∙ sym (append_assoc out (comma_if later) (compact_text d ++ last))
      ∙ sym (append_assoc (out ++ comma_if later) (compact_text d) last)
      ∙ ap (λ s. s ++ last) (sym (second ∙ ap (λ s. s ++ compact_text d) first))

  pub step_after : holder < call.ordinal → IsAfter holder calls rest → IsAfter holder calls left
  step_after early before = record {
    passed = before.passed ++ (call ∷ is.passed);
    parts = before.parts ∙ ap (λ r. before.passed ++ r) (parts ∙ ap (λ r. call ∷ r) is.parts) ∙ sym (append_assoc before.passed (call ∷ is.passed) left);
    within = All-append (λ (c : Call). holder ≤ c.holder) before.passed (call ∷ is.passed) before.within
        (All-cons (λ (c : Call). holder ≤ c.holder) call is.passed (omega arith)
        (All-weaker (λ (c : Call). call.ordinal ≤ c.holder) (λ (c : Call). holder ≤ c.holder) (λ (c : Call) (h : call.ordinal ≤ c.holder). omega arith) is.passed is.within));
  }

  pub step_first : (n : ℕ) → holder ≤ n → AreInOrder n (call ∷ after) → BeginBelow (call.holder + 1) left → MayBeginWith holder left
  step_first n early order below =
      let order' = subst (AreInOrder (n + 1)) is.parts order.3 in
      (n + 1 + length is.passed, omega arith, order_after (n + 1) is.passed left order', subst (λ (h : ℕ). BeginBelow (h + 1) left) same below)

  pub step_length : length rest ≤ length calls → length left ≤ length calls
  step_length before =
      let first : length rest ≡ length after + 1 = ap length parts ∙ omega arith in
      let second : length after ≡ length is.passed + length left = ap length is.parts ∙ length-append is.passed left in
      omega arith

pub list_step : (rate holder : ℕ) (calls rest after left : List Call) (call : Call) (later : Bool) (old out comma new : List ℕ) → IsWritten rate holder calls rest later old out
    → rest ≡ call ∷ after → call.holder ≡ holder → comma ≡ out ++ comma_if later
    → new ≡ comma ++ compact_text (call_data rate (held_calls rate call.ordinal after) call.op) → IsAfter call.ordinal after left → BeginBelow (call.holder + 1) left
    → IsWritten rate holder calls left true old new
list_step rate holder calls rest after left call later old out comma new (text, before, (n, early, order, begin), short) parts same first second is below =
    let order' = subst (AreInOrder n) parts order in
    let number = order'.0 in
    let above : holder < call.ordinal = omega arith in (
      step_text rate holder calls rest after left call parts same is later old out comma new above text first second,
      step_after rate holder calls rest after left call parts same is above before,
      step_first rate holder calls rest after left call parts same is n early order' below,
      step_length rate holder calls rest after left call parts same is short,
    )

pub list_end : (rate holder : ℕ) (calls rest : List Call) (later : Bool) (old out new : List ℕ) → IsWritten rate holder calls rest later old out → BeginBelow holder rest
    → new ≡ out ++ 93 ∷ [] → new ≡ old ++ items_text false (held_calls rate holder calls)
list_end rate holder calls rest later old out new (text, before, (n, early, order, begin), short) below last =
    last ∙ sym (text ∙ ap (λ ds. out ++ items_text later ds) (held_calls-ended rate holder n rest early order below))

-- ---- the calls that a call holds

pub then_step : (rate ordinal : ℕ) (calls after : List Call) (call : Call) (old key opened new : List ℕ) → calls ≡ call ∷ after → call.holder ≡ ordinal
    → key ≡ ((old ++ comma_if true) ++ quoted (field_word field.Then)) ++ (58 ∷ []) → opened ≡ key ++ 91 ∷ []
    → new ≡ opened ++ items_text false (held_calls rate ordinal calls) → new ≡ old ++ then_text (held_calls rate ordinal calls)
then_step rate ordinal calls after call old key opened new parts same first second third =
    let some = ap (held_calls rate ordinal) parts ∙ held_calls-first rate ordinal call after same in
    rw (third, second, first, some) (simp append_assoc)

pub then_none : (rate ordinal : ℕ) (calls : List Call) (out : List ℕ) → MayBeginWith ordinal calls → BeginBelow ordinal calls → out ≡ out ++ then_text (held_calls rate ordinal calls)
then_none rate ordinal calls out (n, early, order, begin) below = rw (held_calls-ended rate ordinal n calls early order below) (sym (append-nil out))
