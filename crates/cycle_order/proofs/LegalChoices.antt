-- The order that a tie chooses is a legal one.
use Rattle.std.proofs.Common.{ℕ, zero, suc, ◌≡◌, ◌+◌, ◌<◌, ◌≤◌, length, List, [], ◌∷◌, Bool, true, false, not, Option, None, Some, ◌⊎◌, inl, inr, refl, sym, ap, arith, subst}
use Rattle.std.specs.List.{list_any}
use Rattle.wa_base.specs.declared.graph_names.End.{End}
use Rattle.wa_base.specs.declared.graph_names.Tie.{Tie}
use Rattle.law_base.specs.Members.{IsIn}
use Rattle.law_base.proofs.Members.{IsIn-filter, IsIn-filter_from, IsIn-list_any, list_any-IsIn}
use Rattle.conn_graph.specs.Graph.{Connections}
use Rattle.conn_graph.specs.Ends.{ends, arrow, muted}
use Rattle.conn_graph.specs.Orders.{IsLegalAfter, IsLegalOrder}
use Rattle.conn_graph.proofs.RankLaws.{rank, rank_rises}
use Rattle.cycle_order.specs.Choices.{is_ready, ready_ends, chosen, without, places_from, unmuted_ends, chosen_order}
use Rattle.cycle_order.proofs.Placing.{chosen_in, none_chosen, in_without, not_in_without, still_in, fewer, no_place, next_place}

-- what is left after some ends are done: the other unmuted ones
pub record AreLeft (g : Connections) (done left : List End) : Type 0 where
  pub unmuted : (x : End) → IsIn x left → IsIn x (ends g) × (muted g x ≡ false)
  pub fresh : (x : End) → IsIn x left → IsIn x done → ⊥
  pub all : (x : End) → IsIn x (ends g) → muted g x ≡ false → IsIn x done ⊎ IsIn x left

module _ (g : Connections) where
  -- An end of least rank is ready: where one is left, one is ready.
  some_ready : (n : ℕ) (left : List End) → ((x : End) → IsIn x left → IsIn x (ends g) × (muted g x ≡ false))
      → (x : End) → IsIn x left → rank g x < n → (y : End) × IsIn y (ready_ends (arrow g) left)
  some_ready zero left unmuted x in_x l = absurd (omega arith)
  some_ready (suc n) left unmuted x in_x l = by_test (list_any (λ d. arrow g d x) left) refl (λ d in_d a.
      let r = rank_rises g d x (unmuted d in_d).0 (unmuted x in_x).0 a (unmuted x in_x).1 in some_ready n left unmuted d in_d (omega arith))
    where
      by_test : (b : Bool) → list_any (λ d. arrow g d x) left ≡ b → ((d : End) → IsIn d left → arrow g d x ≡ true → (y : End) × IsIn y (ready_ends (arrow g) left))
          → (y : End) × IsIn y (ready_ends (arrow g) left)
      by_test true t below = let k = IsIn-list_any (λ d. arrow g d x) left t in below k.0 k.1 k.2
      by_test false t below = (x, IsIn-filter_from (is_ready (arrow g) left) left x in_x (ap not t))

  none_left : (left : List End) → ((x : End) → IsIn x left → IsIn x (ends g) × (muted g x ≡ false)) → length (ready_ends (arrow g) left) ≡ 0 → (x : End) → IsIn x left → ⊥
  none_left left unmuted none x in_x = let k = some_ready (rank g x + 1) left unmuted x in_x (omega arith) in empty (ready_ends (arrow g) left) k.0 none k.1
    where
      empty : (es : List End) (e : End) → length es ≡ 0 → IsIn e es → ⊥
      empty [] e l h = absurd h
      empty (x ∷ xs) e l h = absurd (omega arith)

  legal_end : (done left : List End) → AreLeft g done left → ((x : End) → IsIn x left → ⊥) → IsLegalAfter g done []
  legal_end done left are none d in_d u = elim (are.all d in_d u) [ inl m ↦ m | inr m ↦ absurd (none d m) ]

  after_one : (done left : List End) (e : End) → IsIn e left → AreLeft g done left → AreLeft g (e ∷ done) (without e left)
  after_one done left e in_e are = record {
    unmuted = λ x h. are.unmuted x (in_without e x left h);
    fresh = λ x h m. elim m [ inl same ↦ not_in_without e left (subst (λ y. IsIn y (without e left)) same h) | inr m ↦ are.fresh x (in_without e x left h) m ];
    all = λ x in_x u. elim (are.all x in_x u) [ inl m ↦ inl (inr m) | inr m ↦ elim (still_in e x left m) [ inl same ↦ inl (inl same) | inr m ↦ inr m ] ];
  }

  ready_first : (done left : List End) (e : End) → AreLeft g done left → IsIn e (ready_ends (arrow g) left)
      → (d : End) → IsIn d (ends g) → muted g d ≡ false → arrow g d e ≡ true → IsIn d done
  ready_first done left e are ready d in_d u a = elim (are.all d in_d u) [
    | inl m ↦ m
    | inr m ↦
        let free = (IsIn-filter (is_ready (arrow g) left) left e ready).1 in
        let entered = list_any-IsIn (λ d. arrow g d e) left d m a in
        absurd (differ _ entered free)
  ]
    where
      differ : (b : Bool) → b ≡ true → not b ≡ true → ⊥
      differ true h k = absurd cc
      differ false h k = absurd cc

  places_legal : (tie : Tie) (n : ℕ) (done left : List End) → length left ≤ n → AreLeft g done left → IsLegalAfter g done (places_from (arrow g) tie n left)
  places_legal tie zero done left l are =
      subst (λ es. IsLegalAfter g done es) (sym (no_place (arrow g) tie left)) (legal_end done left are (λ x h. let f = fewer x left h in absurd (omega arith)))
  places_legal tie (suc n) done left l are = by_choice (chosen tie (ready_ends (arrow g) left)) refl (λ e in_e.
      let f = fewer e left in_e in places_legal tie n (e ∷ done) (without e left) (omega arith) (after_one done left e in_e are))
    where
      by_choice : (o : Option End) → chosen tie (ready_ends (arrow g) left) ≡ o
          → ((e : End) → IsIn e left → IsLegalAfter g (e ∷ done) (places_from (arrow g) tie n (without e left)))
          → IsLegalAfter g done (places_from (arrow g) tie (suc n) left)
      by_choice None c below =
          subst (λ es. IsLegalAfter g done es) (sym (next_place (arrow g) tie n left None c)) (legal_end done left are (none_left left are.unmuted (none_chosen tie _ c)))
      by_choice (Some e) c below =
          let ready = chosen_in tie (ready_ends (arrow g) left) e c in
          let in_e = (IsIn-filter (is_ready (arrow g) left) left e ready).0 in
          let unmuted = are.unmuted e in_e in
          let rest : IsLegalAfter g done (e ∷ places_from (arrow g) tie n (without e left)) =
          (unmuted.0, unmuted.1, are.fresh e in_e, ready_first done left e are ready, below e in_e) in
          subst (λ es. IsLegalAfter g done es) (sym (next_place (arrow g) tie n left (Some e) c)) rest

  pub unmuted_in : (x : End) → IsIn x (unmuted_ends g) → IsIn x (ends g) × (muted g x ≡ false)
  unfolding unmuted_ends
  unmuted_in x h = let k = IsIn-filter (λ e. not (muted g e)) (ends g) x h in (k.0, not_is (muted g x) k.1)
    where
      not_is : (b : Bool) → not b ≡ true → b ≡ false
      not_is true h = sym h
      not_is false h = refl

  in_unmuted : (x : End) → IsIn x (ends g) → muted g x ≡ false → IsIn x (unmuted_ends g)
  unfolding unmuted_ends
  in_unmuted x in_x u = IsIn-filter_from (λ e. not (muted g e)) (ends g) x in_x (ap not u)

  pub chosen_order_legal : (tie : Tie) → IsLegalOrder g (chosen_order g tie)
  unfolding chosen_order
  chosen_order_legal tie = places_legal tie (length (unmuted_ends g)) [] (unmuted_ends g) (omega arith) (record { unmuted = unmuted_in; fresh = λ x h m. absurd m; all = λ x in_x u. inr (in_unmuted x in_x u) })
