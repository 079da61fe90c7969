-- Placing ends by counts of the arrows that lead to them.
use Rattle.std.proofs.Common.{ℕ, zero, suc, ◌≡◌, ◌+◌, ◌<◌, ◌≤◌, length, List, [], ◌∷◌, ◌++◌, get_or, Bool, true, false, not, Some, None, ◌⊎◌, inl, inr, refl, sym, ◌∙◌, ap, arith, subst, eq-eqb}
use Rattle.std.specs.Prelude.{◌==◌, ◌||◌, ◌&&◌, nat_lt}
use Rattle.std.specs.List.{list_any}
use Rattle.std.specs.BTreeSet.{BTreeSet}
use Rattle.std.proofs.lemmas.Bool.{eqb-true, ne_eqb, ltb-true, lt-ltb}
use Rattle.std.proofs.lemmas.List.{append-nil, append_assoc, length_push}
use Rattle.wa_base.specs.declared.graph_names.End.{End}
use Rattle.wa_base.specs.declared.graph_names.Tie.{Tie}
use Rattle.wa_base.specs.declared.graph_names.Tie.TheVariants.{Up, Down}
use Rattle.law_base.specs.Members.{IsIn}
use Rattle.law_base.proofs.Members.{IsIn-filter, IsIn-filter_from, list_any-IsIn, IsIn-list_any}
use Rattle.law_base.proofs.Tests.{or_first, or_second, or_cases, and_both, and_parts}
use Rattle.cycle_order.specs.Arrows.{vertex_of, leads_to_end}
use Rattle.cycle_order.specs.Choices.{is_ready, ready_ends, chosen, without, places_from}
use Rattle.cycle_order.specs.Counts.{times, entering, bias, holds, AreRising, IsFirst, IsTaken}
use Rattle.cycle_order.specs.Reach.{IsWithin}
use Rattle.cycle_order.proofs.EndArrows.{vertices_apart}
use Rattle.cycle_order.proofs.Placing.{last_is, in_without, not_in_without, still_in, taken, ended}
use Rattle.cycle_order.proofs.Searching.{leads_to}
use Rattle.cycle_order.proofs.Counts.{in_times, entering_none, none_entering, rising_filter, entering_without, length_without, least_is, greatest_is, bias_in, in_bias}

-- What placing knows on the way: which ends are left, for each vertex the arrows from them, and which of them are ready.
pub record IsPlacing (arrows : List (List ℕ)) (tie : Tie) (all : List End) (counts : List ℕ) (ready : BTreeSet ℕ) (placed : List End) : Type 0 where
  pub left : List End
  pub rising : AreRising 0 left
  pub some : (e : End) → IsIn e left → IsIn e all
  pub places_left : length placed + length left ≡ length all
  pub number : length counts ≡ length arrows
  pub counted : (v : ℕ) → v < length arrows → get_or counts v 0 ≡ bias all v + entering arrows left v
  pub free : (e : End) → IsIn e all → IsIn e left ⊎ (entering arrows left (vertex_of e) ≡ 0)
  pub ready_end : (v : ℕ) → holds ready v ≡ true → (e : End) × IsIn e (ready_ends (leads_to_end arrows) left) × (vertex_of e ≡ v)
  pub held : (e : End) → IsIn e (ready_ends (leads_to_end arrows) left) → holds ready (vertex_of e) ≡ true
  pub places : placed ++ places_from (leads_to_end arrows) tie (length left) left ≡ places_from (leads_to_end arrows) tie (length all) all

is_false : (b : Bool) → not b ≡ true → b ≡ false
is_false true h = sym h
is_false false h = refl

module _ (arrows : List (List ℕ)) where
  pub ready_parts : (left : List End) (e : End) → IsIn e (ready_ends (leads_to_end arrows) left) → IsIn e left × (entering arrows left (vertex_of e) ≡ 0)
  ready_parts left e h =
      let k = IsIn-filter (is_ready (leads_to_end arrows) left) left e h in
      (k.0, none_entering arrows (vertex_of e) left (is_false _ k.1))

  pub ready_from : (left : List End) (e : End) → IsIn e left → entering arrows left (vertex_of e) ≡ 0 → IsIn e (ready_ends (leads_to_end arrows) left)
  ready_from left e h none = IsIn-filter_from (is_ready (leads_to_end arrows) left) left e h (ap not (entering_none arrows (vertex_of e) left none))

  module _ (tie : Tie) (all : List End) (within : IsWithin arrows) (inside : (e : End) → IsIn e all → vertex_of e < length arrows) where
    pub placing_starts : (counts : List ℕ) (ready : BTreeSet ℕ) → AreRising 0 all → length counts ≡ length arrows
        → ((v : ℕ) → v < length arrows → get_or counts v 0 ≡ bias all v + entering arrows all v)
        → ((v : ℕ) → holds ready v ≡ list_any (λ e. vertex_of e == v && get_or counts (vertex_of e) 0 == 0) all)
        → IsPlacing arrows tie all counts ready []
    placing_starts counts ready rising number counted held = record {
      left = all;
      rising = rising;
      some = λ e h. h;
      places_left = omega arith;
      number = number;
      counted = counted;
      free = λ e h. inl h;
      ready_end = λ v t.
          let k : (e : End) × IsIn e all × ((vertex_of e == v && get_or counts (vertex_of e) 0 == 0) ≡ true) = IsIn-list_any (λ e. vertex_of e == v && get_or counts (vertex_of e) 0 == 0) all (sym (held v) ∙ t) in
          let parts = and_parts (vertex_of k.0 == v) (get_or counts (vertex_of k.0) 0 == 0) k.2 in
          let none = eqb-true (get_or counts (vertex_of k.0) 0) 0 parts.1 in
          let sum = counted (vertex_of k.0) (inside k.0 k.1) in
          (k.0, ready_from all k.0 k.1 (omega arith), eqb-true (vertex_of k.0) v parts.0);
      held = λ e h.
          let k = ready_parts all e h in
          let sum = counted (vertex_of e) (inside e k.0) in
          let own = bias_in all e k.0 in
          held (vertex_of e) ∙ list_any-IsIn (λ x. vertex_of x == vertex_of e && get_or counts (vertex_of x) 0 == 0) all e k.0
          (and_both _ _ (eq-eqb (vertex_of e) (vertex_of e) refl) (eq-eqb (get_or counts (vertex_of e) 0) 0 (omega arith)));
      places = refl;
    }

    module _ (counts : List ℕ) (ready : BTreeSet ℕ) (placed : List End) (p : IsPlacing arrows tie all counts ready placed) where
      -- no vertex is ready: all places are taken
      pub placing_ends : ((v : ℕ) → holds ready v ≡ false) → placed ≡ places_from (leads_to_end arrows) tie (length all) all
      placing_ends none = sym (append-nil placed) ∙ ap (λ es. placed ++ es) (sym (ended (leads_to_end arrows) tie p.left no_choice)) ∙ p.places
        where
          no_member : (es : List End) → ((e : End) → IsIn e es → ⊥) → chosen tie es ≡ None
          no_member [] h = by_tie tie
            where
              by_tie : (t : Tie) → chosen t [] ≡ None
              by_tie Up = refl
              by_tie Down = refl
          no_member (e ∷ es) h = absurd (h e (inl refl))

          no_choice : chosen tie (ready_ends (leads_to_end arrows) p.left) ≡ None
          no_choice = no_member (ready_ends (leads_to_end arrows) p.left) (λ e h. let t = p.held e h in let f = none (vertex_of e) in absurd cc)

      module _ (v : ℕ) (set : BTreeSet ℕ) (take : IsTaken tie ready set v) where
        pub next : (e : End) × IsIn e (ready_ends (leads_to_end arrows) p.left) × (vertex_of e ≡ v)
        next = p.ready_end v take.there

        pub next_inside : v < length arrows
        next_inside = subst (λ u. u < length arrows) next.2 (inside next.0 (p.some next.0 (ready_parts p.left next.0 next.1).0))

        next_left : IsIn next.0 p.left
        next_left = (ready_parts p.left next.0 next.1).0

        next_free : entering arrows p.left v ≡ 0
        next_free = ap (entering arrows p.left) (sym next.2) ∙ (ready_parts p.left next.0 next.1).1

        pub next_chosen : chosen tie (ready_ends (leads_to_end arrows) p.left) ≡ Some next.0
        next_chosen = by_tie tie (λ x h. take.first (vertex_of x) (p.held x h))
          where
            by_tie : (t : Tie) → ((x : End) → IsIn x (ready_ends (leads_to_end arrows) p.left) → IsFirst t v (vertex_of x)) → chosen t (ready_ends (leads_to_end arrows) p.left) ≡ Some next.0
            by_tie Up least = least_is 0 next.0 (ready_ends (leads_to_end arrows) p.left) (rising_filter _ 0 p.left p.rising) next.1 (λ x h. subst (λ u. u ≤ vertex_of x) (sym next.2) (least x h))
            by_tie Down greatest = sym (last_is (ready_ends (leads_to_end arrows) p.left))
                ∙ greatest_is 0 None next.0 (ready_ends (leads_to_end arrows) p.left) (rising_filter _ 0 p.left p.rising) next.1 (λ x h. subst (λ u. vertex_of x ≤ u) (sym next.2) (greatest x h))

        entered : (u : ℕ) → entering arrows p.left u ≡ times u (get_or arrows v []) + entering arrows (without next.0 p.left) u
        entered u = subst (λ w. entering arrows p.left u ≡ times u (get_or arrows w []) + entering arrows (without next.0 p.left) u) next.2 (entering_without arrows u 0 next.0 p.left p.rising next_left)

        pub enough : (u : ℕ) → u < length counts → times u (get_or arrows v []) ≤ get_or counts u 0
        enough u l = let c = p.counted u (subst (λ n. u < n) p.number l) in let s = entered u in omega arith

        pub one_placed_more : suc (length placed) ≤ length all
        one_placed_more = let n = p.places_left in let l = length_without 0 next.0 p.left p.rising next_left in omega arith

        module _ (counts' : List ℕ) (ready' : BTreeSet ℕ) (number : length counts' ≡ length counts)
            (lower : (u : ℕ) → u < length counts → get_or counts' u 0 + times u (get_or arrows v []) ≡ get_or counts u 0)
            (more : (u : ℕ) → holds ready' u ≡ (holds set u || (nat_lt 0 (times u (get_or arrows v [])) && get_or counts' u 0 == 0))) where
          counted : (u : ℕ) → u < length arrows → get_or counts' u 0 ≡ bias all u + entering arrows (without next.0 p.left) u
          counted u l = let a = p.counted u l in let b = entered u in let c = lower u (subst (λ n. u < n) (sym p.number) l) in omega arith

          free : (e : End) → IsIn e all → IsIn e (without next.0 p.left) ⊎ (entering arrows (without next.0 p.left) (vertex_of e) ≡ 0)
          free e h = elim (p.free e h) [
            | inl m ↦ elim (still_in next.0 e p.left m) [
              | inl same ↦ inr (let z = next_free in let s = entered v in ap (entering arrows (without next.0 p.left)) (ap vertex_of same ∙ next.2) ∙ omega arith)
              | inr k ↦ inl k
            ]
            | inr none ↦ inr (let s = entered (vertex_of e) in omega arith)
          ]

          -- what an arrow of the placed end leads to was not placed
          lead_left : (u : ℕ) → 0 < times u (get_or arrows v []) → (e : End) → IsIn e all → vertex_of e ≡ u → IsIn e (without next.0 p.left)
          lead_left u some e h at = elim (p.free e h) [
            | inl m ↦ elim (still_in next.0 e p.left m) [
              | inl same ↦
                  let z = next_free in
                  let here : u ≡ v = sym at ∙ ap vertex_of same ∙ next.2 in
                  let s = entered v in
                  let k = subst (λ w. 0 < times w (get_or arrows v [])) here some in absurd (omega arith)
              | inr k ↦ k
            ]
            | inr none ↦
                let s = entered u in
                let z : entering arrows p.left u ≡ 0 = ap (entering arrows p.left) (sym at) ∙ none in absurd (omega arith)
          ]

          ready_end : (u : ℕ) → holds ready' u ≡ true → (e : End) × IsIn e (ready_ends (leads_to_end arrows) (without next.0 p.left)) × (vertex_of e ≡ u)
          ready_end u t = elim (or_cases _ _ (sym (more u) ∙ t)) [
            | inl h ↦
                let parts = and_parts (holds ready u) (not (v == u)) (sym (take.rest u) ∙ h) in
                let k = p.ready_end u parts.0 in
                let r = ready_parts p.left k.0 k.1 in
                let s = entered (vertex_of k.0) in
                elim (still_in next.0 k.0 p.left r.0) [
                  | inl same ↦
                      let here = eq-eqb v u (sym next.2 ∙ ap vertex_of (sym same) ∙ k.2) in
                      let other = is_false (v == u) parts.1 in absurd cc
                  | inr m ↦ (k.0, ready_from (without next.0 p.left) k.0 m (omega arith), k.2)
                ]
            | inr h ↦
                let parts = and_parts (nat_lt 0 (times u (get_or arrows v []))) (get_or counts' u 0 == 0) h in
                let some = ltb-true 0 (times u (get_or arrows v [])) parts.0 in
                let zero = eqb-true (get_or counts' u 0) 0 parts.1 in
                let l : u < length arrows = within v u (leads_to arrows v u (in_times u (get_or arrows v []) some)) in
                let c = counted u l in
                let e = in_bias all u (omega arith) in
                let m = lead_left u some e.0 e.1 e.2 in
                let none : entering arrows (without next.0 p.left) (vertex_of e.0) ≡ 0 = ap (entering arrows (without next.0 p.left)) e.2 ∙ omega arith in
                (e.0, ready_from (without next.0 p.left) e.0 m none, e.2)
          ]

          held : (e : End) → IsIn e (ready_ends (leads_to_end arrows) (without next.0 p.left)) → holds ready' (vertex_of e) ≡ true
          held e h =
              let r = ready_parts (without next.0 p.left) e h in
              more (vertex_of e) ∙ by_count (times (vertex_of e) (get_or arrows v [])) refl r.0 r.1
            where
              by_count : (n : ℕ) → times (vertex_of e) (get_or arrows v []) ≡ n → IsIn e (without next.0 p.left) → entering arrows (without next.0 p.left) (vertex_of e) ≡ 0
                  → (holds set (vertex_of e) || (nat_lt 0 (times (vertex_of e) (get_or arrows v [])) && get_or counts' (vertex_of e) 0 == 0)) ≡ true
              by_count zero is m none =
                  let s = entered (vertex_of e) in
                  let m' = in_without next.0 e p.left m in
                  let t = p.held e (ready_from p.left e m' (omega arith)) in
                  let ne : v ≡ vertex_of e → ⊥ = λ same. not_in_without next.0 p.left (subst (λ x. IsIn x (without next.0 p.left)) (vertices_apart e next.0 (sym same ∙ sym next.2)) m) in
                  or_first _ _ (take.rest (vertex_of e) ∙ and_both _ _ t (ap not (ne_eqb v (vertex_of e) ne)))
              by_count (suc n) is m none =
                  let m' = p.some e (in_without next.0 e p.left m) in
                  let c = counted (vertex_of e) (inside e m') in
                  let b = bias_in all e m' in
                  or_second _ _ (and_both _ _ (lt-ltb 0 (times (vertex_of e) (get_or arrows v [])) (omega arith)) (eq-eqb (get_or counts' (vertex_of e) 0) 0 (omega arith)))

          pub placed_more : (end : End) → ((e : End) → vertex_of e ≡ v → end ≡ e) → IsPlacing arrows tie all counts' ready' (placed ++ end ∷ [])
          placed_more end is = record {
            left = without next.0 p.left;
            rising = rising_filter _ 0 p.left p.rising;
            some = λ e h. p.some e (in_without next.0 e p.left h);
            places_left = let n = p.places_left in let l = length_without 0 next.0 p.left p.rising next_left in let k = length_push placed end in omega arith;
            number = number ∙ p.number;
            counted = counted;
            free = free;
            ready_end = ready_end;
            held = held;
            places =
                ap (λ (e : End). (placed ++ e ∷ []) ++ places_from (leads_to_end arrows) tie (length (without next.0 p.left)) (without next.0 p.left)) (is next.0 next.2)
                ∙ append_assoc placed (next.0 ∷ []) (places_from (leads_to_end arrows) tie (length (without next.0 p.left)) (without next.0 p.left))
                ∙ ap (λ es. placed ++ es) (sym (taken (leads_to_end arrows) tie p.left next.0 next_chosen))
                ∙ p.places;
          }
