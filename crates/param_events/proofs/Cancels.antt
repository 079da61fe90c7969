-- Events that are cancelled.
use Rattle.std.proofs.Common.{ℕ, ℤ, zero, suc, ◌≡◌, ◌<◌, ◌≤◌, List, [], ◌∷◌, length, take, get_or, Bool, true, false, cond, refl, ◌∙◌, ap, sym, subst, arith}
use Rattle.std.specs.List.{filter}
use Rattle.std.proofs.lemmas.Bool.Decides.{nat_tests}
use Rattle.param_events.specs.declared.events.Event.{Event}
use Rattle.param_events.specs.declared.events.Event.TheVariants.{Set, Ramp, Curve}
use Rattle.param_events.specs.Edits.{stays, moment, base_after, cancelled}
use Rattle.param_events.specs.Events.{time_of, end_of, until}
use Rattle.param_events.specs.Timeline.{Timeline, IsSound, IsBegun, IsOrderedFrom, IsTimeline}
use Rattle.param_events.proofs.Order.{time-end, from_low}

pub take_ordered : (low i : ℕ) (events : List Event) → IsOrderedFrom low events → IsOrderedFrom low (take i events)
take_ordered low zero events h = tt
take_ordered low (suc i) [] h = tt
take_ordered low (suc i) (e ∷ es) h = (h.0, h.1, take_ordered (end_of e) i es h.2)

pub take_begun : (i : ℕ) (events : List Event) → IsBegun events → IsBegun (take i events)
take_begun zero events h = tt
take_begun (suc i) [] h = tt
take_begun (suc i) (e ∷ es) h = h

stays_no : (time : ℕ) (e : Event) → time ≤ time_of e → stays time e ≡ false
stays_no time (Set t value) l = grind (arith, nat_tests)
stays_no time (Ramp t value) l = grind (arith, nat_tests)
stays_no time (Curve t duration end points) l = grind (arith, nat_tests)

stays_end : (time : ℕ) (e : Event) → IsSound e → stays time e ≡ false → time ≤ end_of e
stays_end time (Set t value) s h = grind (arith, nat_tests)
stays_end time (Ramp t value) s h = grind (arith, nat_tests)
stays_end time (Curve t duration end points) s h = let k = s.begins in grind (arith, nat_tests)

stays_before : (time : ℕ) (e : Event) → stays time e ≡ true → time_of e < time
stays_before time (Set t value) h = grind (arith, nat_tests)
stays_before time (Ramp t value) h = grind (arith, nat_tests)
stays_before time (Curve t duration end points) h = grind (arith, nat_tests)

stays_over : (time : ℕ) (e : Event) → IsSound e → end_of e < time → stays time e ≡ true
stays_over time (Set t value) s l = grind (arith, nat_tests)
stays_over time (Ramp t value) s l = grind (arith, nat_tests)
stays_over time (Curve t duration end points) s l = let k = s.begins in grind (arith, nat_tests)

-- where one event stays, all earlier ones stay
pub stays_down : (time low i j : ℕ) (es : List Event) (d : Event) → IsOrderedFrom low es → i ≤ j → j < length es → stays time (get_or es j d) ≡ true → stays time (get_or es i d) ≡ true
stays_down time low i j [] d h l m is = absurd (omega arith)
stays_down time low zero zero (e ∷ es) d h l m is = is
stays_down time low zero (suc j) (e ∷ es) d h l m is =
    let begins = stays_before time (get_or es j d) is in
    let rest = from_low (end_of e) j es d h.2 (omega arith) in
    stays_over time e h.1 (omega (arith, begins, rest))
stays_down time low (suc i) zero (e ∷ es) d h l m is = absurd (omega arith)
stays_down time low (suc i) (suc j) (e ∷ es) d h l m is = stays_down time (end_of e) i j es d h.2 (omega arith) (omega arith) is

-- where one event goes, all later ones go
gone : (time low : ℕ) (events : List Event) → time ≤ low → IsOrderedFrom low events → filter (stays time) events ≡ []
gone time low [] l h = refl
gone time low (e ∷ es) l h =
    let first = h.0 in
    let k = time-end e h.1 in
    ap (λ b. cond b (e ∷ filter (stays time) es) (filter (stays time) es)) (stays_no time e (omega arith)) ∙ gone time (end_of e) es (omega arith) h.2

-- what stays is a timeline's
stay_ordered : (time low : ℕ) (events : List Event) → IsOrderedFrom low events → IsOrderedFrom low (filter (stays time) events)
stay_ordered time low [] h = tt
stay_ordered time low (e ∷ es) h = by_test (stays time e) refl (stay_ordered time (end_of e) es h.2)
  where
    by_test : (b : Bool) → stays time e ≡ b → IsOrderedFrom (end_of e) (filter (stays time) es) → IsOrderedFrom low (cond b (e ∷ filter (stays time) es) (filter (stays time) es))
    by_test true is rest = (h.0, h.1, rest)
    by_test false is rest = subst (IsOrderedFrom low) (sym (gone time (end_of e) es (stays_end time e h.1 is) h.2)) tt

stay_begun : (time low : ℕ) (events : List Event) → IsOrderedFrom low events → IsBegun events → IsBegun (filter (stays time) events)
stay_begun time low [] h b = tt
stay_begun time low (e ∷ es) h b = by_test (stays time e) refl
  where
    by_test : (x : Bool) → stays time e ≡ x → IsBegun (cond x (e ∷ filter (stays time) es) (filter (stays time) es))
    by_test true is = b
    by_test false is = subst IsBegun (sym (gone time (end_of e) es (stays_end time e h.1 is) h.2)) tt

pub stay_kept : (time : ℕ) (events : List Event) → IsTimeline events → IsTimeline (filter (stays time) events)
stay_kept time events h = record { begun = stay_begun time 0 events h.ordered h.begun; ordered = stay_ordered time 0 events h.ordered }

-- the first i events stay, and the next one does not
pub stay_at : (time low i : ℕ) (es : List Event) (d : Event) → IsOrderedFrom low es → i ≤ length es → ((k : ℕ) → k < i → stays time (get_or es k d) ≡ true) → (i < length es → stays time (get_or es i d) ≡ false)
    → filter (stays time) es ≡ take i es
stay_at time low zero [] d h l each next = refl
stay_at time low (suc i) [] d h l each next = absurd (omega arith)
stay_at time low zero (e ∷ es) d h l each next =
    let no : stays time e ≡ false = next (omega arith) in
    ap (λ b. cond b (e ∷ filter (stays time) es) (filter (stays time) es)) no ∙ gone time (end_of e) es (stays_end time e h.1 no) h.2
stay_at time low (suc i) (e ∷ es) d h l each next =
    ap (λ b. cond b (e ∷ filter (stays time) es) (filter (stays time) es)) (each 0 (omega arith))
    ∙ ap (λ xs. e ∷ xs) (stay_at time (end_of e) i es d h.2 (omega arith) (λ k m. each (suc k) (omega arith)) (λ m. next (omega arith)))

pub cancel_is : (line : Timeline) (base slot : ℤ) (items kept : List Event) (now at : ℕ) (time : ℤ) → record { base = base; slot = slot; events = items } ≡ line → at ≡ moment now time → kept ≡ filter (stays at) items
    → record { base = base_after (until now kept) base slot; slot = slot; events = kept } ≡ cancelled line now time
cancel_is line base slot items kept now at time view e k =
    ap (λ es. let l : Timeline = record { base = base_after (until now es) base slot; slot = slot; events = es } in l) (k ∙ ap (λ t. filter (stays t) items) e) ∙ ap (λ (l : Timeline). cancelled l now time) view
