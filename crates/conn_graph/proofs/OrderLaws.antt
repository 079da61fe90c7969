-- A walk along a legal order, and what its list says.
use Rattle.std.proofs.Common.{◌≡◌, List, [], ◌∷◌, ◌++◌, true, false, ◌⊎◌, inl, inr, refl, sym, ◌∙◌, ap, subst}
use Rattle.std.specs.Prelude.{◌↔◌}
use Rattle.wa_base.specs.declared.graph_names.End.{End}
use Rattle.law_base.specs.Members.{IsIn, AreDistinct}
use Rattle.conn_graph.specs.Graph.{Connections}
use Rattle.conn_graph.specs.Ends.{ends, arrow, muted}
use Rattle.conn_graph.specs.Orders.{IsLegalAfter, IsLegalOrder, IsOrdered}

-- what a list says that goes on legally after the ends done
record IsOrderedAfter (g : Connections) (done order : List End) : Type 0 where
  once : AreDistinct order
  each : (d : End) → IsIn d order → IsIn d (ends g) × (muted g d ≡ false) × (IsIn d done → ⊥)
  all : (d : End) → IsIn d (ends g) → muted g d ≡ false → IsIn d done ⊎ IsIn d order
  forward : (before behind : List End) (e d : End) → order ≡ before ++ e ∷ behind → IsIn d (ends g) → muted g d ≡ false → arrow g d e ≡ true → IsIn d done ⊎ IsIn d before

-- an empty list has no place
nothing_at : (before behind : List End) (e : End) → [] ≡ before ++ e ∷ behind → ⊥
nothing_at [] behind e h = cc
nothing_at (x ∷ before) behind e h = cc

module _ (g : Connections) where
  -- the first end has its arrows from ends done, and the ends behind it from these, from the first one or from ends between
  forward_after : (done xs : List End) (x : End) → ((d : End) → IsIn d (ends g) → muted g d ≡ false → arrow g d x ≡ true → IsIn d done) → IsOrderedAfter g (x ∷ done) xs
      → (before behind : List End) (e d : End) → x ∷ xs ≡ before ++ e ∷ behind → IsIn d (ends g) → muted g d ≡ false → arrow g d e ≡ true → IsIn d done ⊎ IsIn d before
  forward_after done xs x first rest [] behind e d h in_d u a =
      let same : e ≡ x = cc in
      inl (first d in_d u (subst (λ y. arrow g d y ≡ true) same a))
  forward_after done xs x first rest (y ∷ before) behind e d h in_d u a =
      let same : x ≡ y = cc in
      let tail : xs ≡ before ++ e ∷ behind = cc in
      elim (rest.forward before behind e d tail in_d u a) [
        | inl m ↦ elim m [ inl here ↦ inr (inl (here ∙ same)) | inr m ↦ inl m ]
        | inr m ↦ inr (inr m)
      ]

  ordered_after : (done order : List End) → IsLegalAfter g done order → IsOrderedAfter g done order
  ordered_after done [] legal = record {
    once = tt;
    each = λ d m. absurd m;
    all = λ d in_d u. inl (legal d in_d u);
    forward = λ before behind e d h in_d u a. absurd (nothing_at before behind e h);
  }
  ordered_after done (x ∷ xs) legal = let rest = ordered_after (x ∷ done) xs legal.4 in record {
    once = ((λ m. (rest.each x m).2 (inl refl)), rest.once);
    each = λ d m. elim m [
      | inl same ↦ subst (λ y. IsIn y (ends g) × (muted g y ≡ false) × (IsIn y done → ⊥)) (sym same) (legal.0, legal.1, legal.2)
      | inr m ↦ let here = rest.each d m in (here.0, here.1, λ k. here.2 (inr k))
    ];
    all = λ d in_d u. elim (rest.all d in_d u) [
      | inl m ↦ elim m [ inl same ↦ inr (inl same) | inr m ↦ inl m ]
      | inr m ↦ inr (inr m)
    ];
    forward = forward_after done xs x legal.3 rest;
  }

  legal_after : (done order : List End) → IsOrderedAfter g done order → IsLegalAfter g done order
  legal_after done [] ordered = λ d in_d u. elim (ordered.all d in_d u) [ inl m ↦ m | inr m ↦ absurd m ]
  legal_after done (x ∷ xs) ordered = let first = ordered.each x (inl refl) in (
    first.0,
    first.1,
    first.2,
    (λ d in_d u a. elim (ordered.forward [] xs x d refl in_d u a) [ inl m ↦ m | inr m ↦ absurd m ]),
    legal_after (x ∷ done) xs (record {
      once = ordered.once.1;
      each = λ d m. let here = ordered.each d (inr m) in (
        here.0,
        here.1,
        λ k. elim k [
          | inl same ↦ ordered.once.0 (subst (λ y. IsIn y xs) same m)
          | inr k ↦ here.2 k
        ],
      );
      all = λ d in_d u. elim (ordered.all d in_d u) [
        | inl m ↦ inl (inr m)
        | inr m ↦ elim m [ inl same ↦ inl (inl same) | inr m ↦ inr m ]
      ];
      forward = λ before behind e d h in_d u a. elim (ordered.forward (x ∷ before) behind e d (ap (λ ys. x ∷ ys) h) in_d u a) [
        | inl m ↦ inl (inr m)
        | inr m ↦ elim m [ inl same ↦ inl (inl same) | inr m ↦ inr m ]
      ];
    }),
  )

  legal_is_ordered : (order : List End) → IsLegalOrder g order → IsOrdered g order
  legal_is_ordered order legal = let ordered = ordered_after [] order legal in record {
    once = ordered.once;
    all = λ d. (
      (λ m. let here = ordered.each d m in (here.0, here.1)),
      (λ k. elim (ordered.all d k.0 k.1) [ inl m ↦ absurd m | inr m ↦ m ]),
    );
    forward = λ before behind e d h m a. let here = ordered.each d m in elim (ordered.forward before behind e d h here.0 here.1 a) [ inl k ↦ absurd k | inr k ↦ k ];
  }

  ordered_is_legal : (order : List End) → IsOrdered g order → IsLegalOrder g order
  ordered_is_legal order ordered = legal_after [] order (record {
    once = ordered.once;
    each = λ d m. let here = (ordered.all d).0 m in (here.0, here.1, λ k. k);
    all = λ d in_d u. inr ((ordered.all d).1 (in_d, u));
    forward = λ before behind e d h in_d u a. inr (ordered.forward before behind e d h ((ordered.all d).1 (in_d, u)) a);
  })

  -- a list is a legal order exactly where it is ordered
  pub legal_order_is : (order : List End) → IsLegalOrder g order ↔ IsOrdered g order
  legal_order_is order = (legal_is_ordered order, ordered_is_legal order)
