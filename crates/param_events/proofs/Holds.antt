-- What a hold leaves.
use Rattle.std.proofs.Common.{ℕ, ℤ, zero, suc, ◌≡◌, ◌-◌, ◌<◌, ◌≤◌, List, [], ◌∷◌, ◌++◌, length, take, get_or, set, Bool, true, false, cond, refl, ◌∙◌, ap, sym, subst, arith, Some, inl, inr, rules}
use Rattle.std.proofs.lemmas.Bool.Decides.{nat_tests}
use Rattle.param_events.specs.declared.events.Event.{Event}
use Rattle.param_events.specs.declared.events.Event.TheVariants.{Set, Ramp, Curve}
use Rattle.param_events.specs.Edits.{goes_past, is_ramp, cut_at, with_last_cut, held}
use Rattle.param_events.specs.Events.{time_of, end_of, until, after, first, last}
use Rattle.param_events.specs.Timeline.{IsSound, IsNoRamp, IsBegun, IsOrderedFrom, IsTimeline}
use Rattle.param_events.proofs.Order.{order, until_yes, after_yes, all_after, IsUntil, until_until, until_ordered, last_event, last_is}

cut_set : (at i : ℕ) (es : List Event) (d : Event) → i < length es → take (suc i) (set es i (cut_at at (get_or es i d))) ≡ with_last_cut at (take (suc i) es)
cut_set at i [] d l = absurd (omega arith)
cut_set at zero (e ∷ es) d l = refl
cut_set at (suc i) (e ∷ []) d l = absurd (omega arith)
cut_set at (suc i) (e ∷ f ∷ es) d l = ap (λ xs. e ∷ xs) (cut_set at i (f ∷ es) d (omega arith))

pub cut_there : (at i : ℕ) (es : List Event) (d : Event) → goes_past at (last (take i es)) ≡ true → i ≤ length es → take i (set es (i - 1) (cut_at at (get_or es (i - 1) d))) ≡ with_last_cut at (take i es)
cut_there at zero es d past l = absurd (search rules)
cut_there at (suc k) es d past l = let e : k ≡ suc k - 1 = omega arith in subst (λ j. take (suc k) (set es j (cut_at at (get_or es j d))) ≡ with_last_cut at (take (suc k) es)) e (cut_set at k es d (omega arith))

pub held_past : (before later : List Event) (at : ℕ) (value : ℤ) → goes_past at (last before) ≡ true → held before later at value ≡ with_last_cut at before
held_past before later at value past = ap (λ b. cond b (with_last_cut at before) (cond (is_ramp (first later)) (before ++ Ramp at value ∷ []) before)) past

cut_sound : (at : ℕ) (e : Event) → IsSound e → time_of e ≤ at → goes_past at (Some e) ≡ true → IsSound (cut_at at e)
cut_sound at (Set time value) h l past = tt
cut_sound at (Ramp time value) h l past = tt
cut_sound at (Curve time duration end points) h l past =
    let k = h.ends in record { begins = l; ends = grind (arith, nat_tests); lasts = h.lasts; has_points = h.has_points }

cut_time : (low at : ℕ) (e : Event) → low ≤ time_of e → low ≤ time_of (cut_at at e)
cut_time low at (Set time value) l = l
cut_time low at (Ramp time value) l = l
cut_time low at (Curve time duration end points) l = l

cut_ordered : (low at : ℕ) (es : List Event) → IsOrderedFrom low es → IsUntil at es → goes_past at (last_event es) ≡ true → IsOrderedFrom low (with_last_cut at es)
cut_ordered low at [] h u past = tt
cut_ordered low at (e ∷ []) h u past = (cut_time low at e h.0, cut_sound at e h.1 u.0 past, tt)
cut_ordered low at (e ∷ d ∷ es) h u past = (h.0, h.1, cut_ordered (end_of e) at (d ∷ es) h.2 u.1 past)

cut_no_ramp : (at : ℕ) (e : Event) → IsNoRamp e → IsNoRamp (cut_at at e)
cut_no_ramp at (Set time value) h = tt
cut_no_ramp at (Ramp time value) h = h
cut_no_ramp at (Curve time duration end points) h = tt

cut_begun : (at : ℕ) (es : List Event) → IsBegun es → IsBegun (with_last_cut at es)
cut_begun at [] h = tt
cut_begun at (e ∷ []) h = cut_no_ramp at e h
cut_begun at (e ∷ d ∷ es) h = h

ended : (at : ℕ) (e : Event) → time_of e ≤ at → goes_past at (Some e) ≡ false → end_of e ≤ at
ended at (Set time value) l h = l
ended at (Ramp time value) l h = l
ended at (Curve time duration end points) l h = grind (arith, nat_tests)

stub_ordered : (low at : ℕ) (value : ℤ) (es : List Event) → low ≤ at → IsOrderedFrom low es → IsUntil at es → goes_past at (last_event es) ≡ false → IsOrderedFrom low (es ++ Ramp at value ∷ [])
stub_ordered low at value [] l h u past = (l, tt, tt)
stub_ordered low at value (e ∷ []) l h u past = (h.0, h.1, (ended at e u.0 past, tt, tt))
stub_ordered low at value (e ∷ d ∷ es) l h u past = let k = h.2.0 in let m = u.1.0 in (h.0, h.1, stub_ordered (end_of e) at value (d ∷ es) (omega arith) h.2 u.1 past)

until_begun : (at : ℕ) (es : List Event) → IsTimeline es → IsBegun (until at es)
until_begun at [] h = tt
until_begun at (e ∷ es) h = elim (order (time_of e) at) [
  | inl k ↦ subst IsBegun (sym (until_yes at e es k)) h.begun
  | inr k ↦ subst IsBegun (sym (all_after at (time_of e) (e ∷ es) k (omega arith, h.ordered.1, h.ordered.2)).0) tt
]

no_ramp : (e : Event) → IsNoRamp e → is_ramp (Some e) ≡ true → ⊥
no_ramp (Set time value) h r = search rules
no_ramp (Ramp time value) h r = h
no_ramp (Curve time duration end points) h r = search rules

stub_begun : (at : ℕ) (value : ℤ) (es : List Event) → IsTimeline es → is_ramp (first (after at es)) ≡ true → IsBegun (until at es ++ Ramp at value ∷ [])
stub_begun at value [] h r = absurd (search rules)
stub_begun at value (e ∷ es) h r = elim (order (time_of e) at) [
  | inl k ↦ subst (λ xs. IsBegun (xs ++ Ramp at value ∷ [])) (sym (until_yes at e es k)) h.begun
  | inr k ↦ absurd (no_ramp e h.begun (ap (λ xs. is_ramp (first xs)) (sym (after_yes at e es k)) ∙ r))
]

held_by : (events : List Event) (at : ℕ) (value : ℤ) (past ramp : Bool) → goes_past at (last (until at events)) ≡ past → is_ramp (first (after at events)) ≡ ramp → IsTimeline events
    → IsTimeline (cond past (with_last_cut at (until at events)) (cond ramp (until at events ++ Ramp at value ∷ []) (until at events)))
held_by events at value true ramp p r h = record {
  begun = cut_begun at (until at events) (until_begun at events h);
  ordered = cut_ordered 0 at (until at events) (until_ordered 0 at events h.ordered) (until_until at events) (ap (goes_past at) (sym (last_is (until at events))) ∙ p);
}
held_by events at value false true p r h = record {
  begun = stub_begun at value events h r;
  ordered = stub_ordered 0 at value (until at events) (omega arith) (until_ordered 0 at events h.ordered) (until_until at events) (ap (goes_past at) (sym (last_is (until at events))) ∙ p);
}
held_by events at value false false p r h = record { begun = until_begun at events h; ordered = until_ordered 0 at events h.ordered }

pub held_kept : (events : List Event) (at : ℕ) (value : ℤ) → IsTimeline events → IsTimeline (held (until at events) (after at events) at value)
held_kept events at value h = held_by events at value (goes_past at (last (until at events))) (is_ramp (first (after at events))) refl refl h
