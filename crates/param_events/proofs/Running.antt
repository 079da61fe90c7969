-- Which events a search has to look at: the last one that has begun, and the first one that has not.
use Rattle.std.proofs.Common.{ℕ, zero, suc, ◌≡◌, ◌+◌, ◌<◌, ◌≤◌, ◌-◌, List, [], ◌∷◌, length, take, drop, get_or, Bool, true, false, cond, refl, ◌∙◌, ap, sym, subst, arith, Option, Some, None, inl, inr}
use Rattle.std.specs.Prelude.{nat_lt, slice_get}
use Rattle.std.specs.List.{position_from, position}
use Rattle.std.proofs.lemmas.Bool.Decides.{nat_tests}
use Rattle.std.proofs.lemmas.Iterator.Adapters.{position_from-zero}
use Rattle.param_events.specs.declared.events.Event.{Event}
use Rattle.param_events.specs.declared.events.Event.TheVariants.{Set, Ramp, Curve}
use Rattle.param_events.specs.Edits.{runs_at, lies_between, goes_past}
use Rattle.param_events.specs.Events.{time_of, end_of, until, after, first, last}
use Rattle.param_events.specs.Timeline.{IsOrderedFrom}
use Rattle.param_events.proofs.Finds.{take_long, get_first}
use Rattle.param_events.proofs.Order.{order, time-end, until_yes, after_no, all_after, until_until, IsUntil, until_ordered, last_event, last_is}

-- a test that no event from a time on passes
none_passes : (test : Event → Bool) (low n : ℕ) (es : List Event) → IsOrderedFrom low es → ((e : Event) → low ≤ time_of e → test e ≡ false) → position_from test n es ≡ None
none_passes test low n [] h fails = refl
none_passes test low n (e ∷ es) h fails =
    let first = h.0 in
    let own = time-end e h.1 in
    ap (λ b. cond b (Some n) (position_from test (n + 1) es)) (fails e h.0)
    ∙ none_passes test (end_of e) (n + 1) es h.2 (λ d l. fails d (omega (arith, first, own, l)))

not_begun : (at : ℕ) (e : Event) → at < time_of e → runs_at at e ≡ false
not_begun at (Set time value) l = refl
not_begun at (Ramp time value) l = refl
not_begun at (Curve time duration end points) l = grind (arith, nat_tests)

ended : (at : ℕ) (e : Event) → end_of e ≤ at → runs_at at e ≡ false
ended at (Set time value) l = refl
ended at (Ramp time value) l = refl
ended at (Curve time duration end points) l = grind (arith, nat_tests)

begun : (at : ℕ) (e : Event) → time_of e ≤ at → runs_at at e ≡ goes_past at (Some e)
begun at (Set time value) l = refl
begun at (Ramp time value) l = refl
begun at (Curve time duration end points) l = grind (arith, nat_tests)

-- the place of a curve that is under way: it is the last event that has begun
abbrev pub place_of : ℕ → ℕ → List Event → Option ℕ
place_of at n begun = cond (goes_past at (last_event begun)) (Some (n + (length begun - 1))) None

running_first : (at low n : ℕ) (e : Event) (es u : List Event) → IsOrderedFrom low (e ∷ es) → time_of e ≤ at → until at es ≡ u → position_from (runs_at at) (n + 1) es ≡ place_of at (n + 1) u
    → position_from (runs_at at) n (e ∷ es) ≡ place_of at n (e ∷ u)
running_first at low n e es [] h k is rest =
    ap (λ b. cond b (Some n) (position_from (runs_at at) (n + 1) es)) (begun at e k)
    ∙ ap (λ r. cond (goes_past at (Some e)) (Some n) r) rest
    ∙ ap (λ m. cond (goes_past at (Some e)) (Some m) None) (let same : n ≡ n + (length (e ∷ []) - 1) = omega arith in same)
running_first at low n e es (d ∷ ds) h k is rest =
    let until_at : IsUntil at (d ∷ ds) = subst (IsUntil at) is (until_until at es) in
    let ordered : IsOrderedFrom (end_of e) (d ∷ ds) = subst (IsOrderedFrom (end_of e)) is (until_ordered (end_of e) at es h.2) in
    let begins = until_at.0 in
    let low_of = ordered.0 in
    let over : end_of e ≤ at = omega (arith, begins, low_of) in
    ap (λ b. cond b (Some n) (position_from (runs_at at) (n + 1) es)) (ended at e over)
    ∙ rest
    ∙ ap (λ m. cond (goes_past at (last_event (d ∷ ds))) (Some m) None) (let same : n + 1 + (length (d ∷ ds) - 1) ≡ n + (length (e ∷ d ∷ ds) - 1) = omega arith in same)

pub running_from : (at low n : ℕ) (es : List Event) → IsOrderedFrom low es → position_from (runs_at at) n es ≡ place_of at n (until at es)
running_from at low n [] h = refl
running_from at low n (e ∷ es) h = elim (order (time_of e) at) [
  | inl k ↦ running_first at low n e es (until at es) h k refl (running_from at (end_of e) (n + 1) es h.2) ∙ ap (place_of at n) (sym (until_yes at e es k))
  | inr k ↦
      none_passes (runs_at at) (time_of e) n (e ∷ es) (omega arith, h.1, h.2) (λ d l. not_begun at d (omega arith))
      ∙ ap (place_of at n) (sym (all_after at (time_of e) (e ∷ es) k (omega arith, h.1, h.2)).0)
]

pub running_at : (at i : ℕ) (es : List Event) → IsOrderedFrom 0 es → until at es ≡ take i es → i ≤ length es → position (runs_at at) es ≡ cond (goes_past at (last (take i es))) (Some (i - 1)) None
running_at at i es h e l =
    let long = take_long i es l in
    let same : 0 + (length (take i es) - 1) ≡ i - 1 = omega (arith, long) in
    position_from-zero (runs_at at) es ∙ running_from at 0 0 es h ∙ ap (place_of at 0) e
    ∙ ap (λ m. cond (goes_past at (last_event (take i es))) (Some m) None) same
    ∙ ap (λ o. cond (goes_past at o) (Some (i - 1)) None) (sym (last_is (take i es)))

-- whether an event is there that begins before a time
abbrev pub begins_before : ℕ → Option Event → Bool
begins_before time None = false
begins_before time (Some e) = nat_lt (time_of e) time

not_between : (start finish : ℕ) (e : Event) → finish ≤ time_of e → lies_between start finish e ≡ false
not_between start finish e l = grind (arith, nat_tests)

between_first : (start finish low n : ℕ) (e : Event) (es : List Event) → IsOrderedFrom low (e ∷ es) → start < time_of e → (b : Bool) → nat_lt (time_of e) finish ≡ b
    → position_from (lies_between start finish) n (e ∷ es) ≡ cond b (Some n) None
between_first start finish low n e es h k true is =
    let yes : lies_between start finish e ≡ true = grind (arith, nat_tests) in
    ap (λ b. cond b (Some n) (position_from (lies_between start finish) (n + 1) es)) yes
between_first start finish low n e es h k false is =
    let past : finish ≤ time_of e = grind (arith, nat_tests) in
    none_passes (lies_between start finish) (time_of e) n (e ∷ es) (omega arith, h.1, h.2) (λ d l. not_between start finish d (omega (arith, past, l)))

-- the place of an event between two times: it is the first one after the earlier time
pub between_from : (start finish low n : ℕ) (es : List Event) → IsOrderedFrom low es
    → position_from (lies_between start finish) n es ≡ cond (begins_before finish (first (after start es))) (Some (n + length (until start es))) None
between_from start finish low n [] h = refl
between_from start finish low n (e ∷ es) h = elim (order (time_of e) start) [
  | inl k ↦
      let no : lies_between start finish e ≡ false = grind (arith, nat_tests) in
      let same : n + 1 + length (until start es) ≡ n + length (e ∷ until start es) = omega arith in
      ap (λ b. cond b (Some n) (position_from (lies_between start finish) (n + 1) es)) no
      ∙ between_from start finish (end_of e) (n + 1) es h.2
      ∙ ap (λ m. cond (begins_before finish (first (after start es))) (Some m) None) same
      ∙ ap (λ u. cond (begins_before finish (first (after start es))) (Some (n + length u)) None) (sym (until_yes start e es k))
      ∙ ap (λ xs. cond (begins_before finish (first xs)) (Some (n + length (until start (e ∷ es)))) None) (sym (after_no start e es k))
  | inr k ↦
      let apart = all_after start (time_of e) (e ∷ es) k (omega arith, h.1, h.2) in
      let same : n ≡ n + length (until start (e ∷ es)) = let none : length (until start (e ∷ es)) ≡ 0 = ap length apart.0 in omega (arith, none) in
      between_first start finish low n e es h k (nat_lt (time_of e) finish) refl
      ∙ ap (λ m. cond (nat_lt (time_of e) finish) (Some m) None) same
      ∙ ap (λ xs. cond (begins_before finish (first xs)) (Some (n + length (until start (e ∷ es)))) None) (sym apart.1)
]

pub between_at : (start finish i : ℕ) (es : List Event) → IsOrderedFrom 0 es → until start es ≡ take i es → after start es ≡ drop i es → i ≤ length es
    → position (lies_between start finish) es ≡ cond (begins_before finish (slice_get es i)) (Some i) None
between_at start finish i es h e a l =
    let long = take_long i es l in
    let u : length (until start es) ≡ length (take i es) = ap length e in
    let same : 0 + length (until start es) ≡ i = omega (arith, long, u) in
    position_from-zero (lies_between start finish) es ∙ between_from start finish 0 0 es h
    ∙ ap (λ m. cond (begins_before finish (first (after start es))) (Some m) None) same
    ∙ ap (λ o. cond (begins_before finish o) (Some i) None) (ap first a ∙ sym (get_first i es))

pub get_there : (i : ℕ) (es : List Event) (d : Event) → i < length es → slice_get es i ≡ Some (get_or es i d)
get_there i [] d l = absurd (omega arith)
get_there zero (e ∷ es) d l = refl
get_there (suc i) (e ∷ es) d l = get_there i es d (omega arith)

pub get_past : (i : ℕ) (es : List Event) → length es ≤ i → slice_get es i ≡ None
get_past i [] l = refl
get_past zero (e ∷ es) l = absurd (omega arith)
get_past (suc i) (e ∷ es) l = get_past i es (omega arith)
