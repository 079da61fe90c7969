-- The context of the pruned script's session: it has the suspensions and the start of the whole one, by the numbers of their calls in the pruned script.
use Rattle.std.proofs.Common.{ℕ, ◌≡◌, List, [], ◌∷◌, map, Bool, true, false, cond, Option, None, Some, Ordering, refl, sym, ◌∙◌, ap}
use Rattle.std.specs.Prelude.{ℤ, if◌then◌else◌, option_map, is_some, unwrap_or, nat_le}
use Rattle.std.specs.Ordering.{nat_cmp, match_ordering}
use Rattle.std.specs.declared.cmp.Ordering.TheVariants.{Less, Equal, Greater}
use Rattle.std.specs.BTreeMap.{insert_entry, is_at}
use Rattle.std.specs.Map.{lookup, remove_entry}
use Rattle.wa_base.specs.Contexts.{quantum_of}
use Rattle.wa_base.specs.declared.exceptions.Exc.TheVariants.{InvalidState}
use Rattle.ctx_state.specs.Context.{ContextView, start_refusal, resume_refusal, quantised, suspend_refusal, frame_refusal, ordinal_at, with_start, with_suspension, next, turn_of, turned_by, after_turn, due_or_not}
use Rattle.ctx_state.specs.declared.context.Turn.{Turn}
use Rattle.ctx_state.specs.declared.context.Turn.TheVariants.{Went, Due, Done}

module _ (place : ℕ → ℕ) where
  -- suspensions by the numbers of their calls in the pruned script
  abbrev pub placed : List (ℕ × ℕ) → List (ℕ × ℕ)
  placed suspensions = map (λ s. (s.0, place s.1)) suspensions

  -- the context of the pruned script's session
  abbrev pub part_context : ContextView → ContextView
  part_context c = record c { started = option_map place c.started; suspensions = placed c.suspensions }

  abbrev pub part_turn : Turn → Turn
  part_turn Went = Went
  part_turn (Due ordinal) = Due (place ordinal)
  part_turn (Done ordinal) = Done (place ordinal)

  -- ---- suspensions

  lookup_placed : (test : ℕ → Bool) (es : List (ℕ × ℕ)) → lookup test (placed es) ≡ option_map place (lookup test es)
  lookup_placed test [] = refl
  lookup_placed test (e ∷ es) = by_test (test e.0) (lookup_placed test es)
    where
      by_test : (b : Bool) → lookup test (placed es) ≡ option_map place (lookup test es) → cond b (Some (place e.1)) (lookup test (placed es)) ≡ option_map place (cond b (Some e.1) (lookup test es))
      by_test true same = refl
      by_test false same = same

  remove_placed : (test : ℕ → Bool) (es : List (ℕ × ℕ)) → remove_entry test (placed es) ≡ placed (remove_entry test es)
  remove_placed test [] = refl
  remove_placed test (e ∷ es) = by_test (test e.0) (remove_placed test es)
    where
      by_test : (b : Bool) → remove_entry test (placed es) ≡ placed (remove_entry test es)
          → cond b (placed es) ((e.0, place e.1) ∷ remove_entry test (placed es)) ≡ placed (cond b es (e ∷ remove_entry test es))
      by_test true same = refl
      by_test false same = ap (λ xs. (e.0, place e.1) ∷ xs) same

  insert_placed : (es : List (ℕ × ℕ)) (frame ordinal : ℕ) → insert_entry nat_cmp (placed es) frame (place ordinal) ≡ placed (insert_entry nat_cmp es frame ordinal)
  insert_placed [] frame ordinal = refl
  insert_placed (e ∷ es) frame ordinal = by_order (nat_cmp frame e.0) (insert_placed es frame ordinal)
    where
      by_order : (o : Ordering) → insert_entry nat_cmp (placed es) frame (place ordinal) ≡ placed (insert_entry nat_cmp es frame ordinal)
          → match_ordering o ((frame, place ordinal) ∷ (e.0, place e.1) ∷ placed es) ((e.0, place ordinal) ∷ placed es) ((e.0, place e.1) ∷ insert_entry nat_cmp (placed es) frame (place ordinal))
          ≡ placed (match_ordering o ((frame, ordinal) ∷ e ∷ es) ((e.0, ordinal) ∷ es) (e ∷ insert_entry nat_cmp es frame ordinal))
      by_order Less same = refl
      by_order Equal same = refl
      by_order Greater same = ap (λ xs. (e.0, place e.1) ∷ xs) same

  still_some : (o : Option ℕ) → is_some (option_map place o) ≡ is_some o
  still_some None = refl
  still_some (Some n) = refl

  -- ---- what is refused

  pub same_start : (c : ContextView) → start_refusal (part_context c) ≡ start_refusal c
  same_start c = ap (λ b. if b then Some InvalidState else None) (still_some c.started)

  pub same_resume : (c : ContextView) → resume_refusal (part_context c) ≡ resume_refusal c
  same_resume c = rw (still_some c.started) refl

  same_frame : (c : ContextView) (frame : Option ℕ) → frame_refusal (part_context c) frame ≡ frame_refusal c frame
  same_frame c None = refl
  same_frame c (Some frame) = rw (lookup_placed (is_at (nat_cmp frame)) c.suspensions) (rw (still_some (ordinal_at frame c.suspensions)) refl)

  pub same_suspend : (c : ContextView) (time : ℤ) → suspend_refusal (part_context c) time ≡ suspend_refusal c time
  same_suspend c time = same_frame c (quantised (quantum_of c.spec) time)

  -- ---- what is done

  pub start_placed : (c : ContextView) (ordinal : ℕ) → with_start (part_context c) (place ordinal) ≡ part_context (with_start c ordinal)
  start_placed c ordinal = refl

  pub suspension_placed : (c : ContextView) (frame ordinal : ℕ) → with_suspension (part_context c) frame (place ordinal) ≡ part_context (with_suspension c frame ordinal)
  suspension_placed c frame ordinal = ap (λ s. let x : ContextView = record (part_context c) { suspensions = s } in x) (insert_placed c.suspensions frame ordinal)

  -- ---- quanta

  pub turn_placed : place 0 ≡ 0 → (c : ContextView) → turn_of (part_context c) ≡ part_turn (turn_of c)
  turn_placed none c = by_length (nat_le c.spec.length (next c)) (by_start c.started) (ap due_or_not (lookup_placed (is_at (nat_cmp (next c))) c.suspensions) ∙ by_due (ordinal_at (next c) c.suspensions))
    where
      by_start : (s : Option ℕ) → unwrap_or (option_map place s) 0 ≡ place (unwrap_or s 0)
      by_start None = sym none
      by_start (Some n) = refl

      by_due : (o : Option ℕ) → due_or_not (option_map place o) ≡ part_turn (due_or_not o)
      by_due None = refl
      by_due (Some n) = refl

      by_length : (b : Bool) → unwrap_or (option_map place c.started) 0 ≡ place (unwrap_or c.started 0) → due_or_not (ordinal_at (next c) (placed c.suspensions)) ≡ part_turn (due_or_not (ordinal_at (next c) c.suspensions))
          → (if b then Done (unwrap_or (option_map place c.started) 0) else due_or_not (ordinal_at (next c) (placed c.suspensions)))
          ≡ part_turn (if b then Done (unwrap_or c.started 0) else due_or_not (ordinal_at (next c) c.suspensions))
      by_length true start due = ap Done start
      by_length false start due = due

  turned_placed : (t : Turn) (c : ContextView) → turned_by (part_turn t) (part_context c) ≡ part_context (turned_by t c)
  turned_placed Went c = refl
  turned_placed (Due ordinal) c = rw (remove_placed (is_at (nat_cmp c.time)) c.suspensions) refl
  turned_placed (Done ordinal) c = refl

  pub after_placed : place 0 ≡ 0 → (c : ContextView) → after_turn (part_context c) ≡ part_context (after_turn c)
  unfolding after_turn
  after_placed none c =
      ap (λ t. turned_by t (record (part_context c) { time = next c })) (turn_placed none c)
      ∙ turned_placed (turn_of c) (record c { time = next c })
