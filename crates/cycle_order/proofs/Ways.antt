-- Ways along the arrows of a graph of numbered vertices.
use Rattle.std.proofs.Common.{ℕ, zero, suc, ◌≡◌, ◌<◌, length, List, [], ◌∷◌, ◌++◌, true, inl, inr, refl, sym, arith, subst}
use Rattle.std.proofs.lemmas.List.FromFn.{length-range_with_len}
use Rattle.law_base.specs.Members.{IsIn}
use Rattle.law_base.specs.Reaching.{reaches}
use Rattle.law_base.proofs.Reaching.{direct, further, first_arrow, enough, no_way}
use Rattle.cycle_order.specs.Reach.{leads, vertices, reaches_vertex, reaches_itself, IsWithin}
use Rattle.cycle_order.specs.Passes.{IsWayOf, IsWay, AreChained, IsTurned}
use Rattle.cycle_order.proofs.Lists.{IsIn-range}
use Rattle.cycle_order.proofs.Searching.{source_within}

module _ (arrows : List (List ℕ)) where
  pub here : (a : ℕ) → IsWay arrows a a
  here a = (0, refl)

  pub arrow_first : (a c b : ℕ) → leads arrows a c ≡ true → IsWay arrows c b → IsWay arrows a b
  arrow_first a c b h w = (suc w.0, (c, h, w.1))

  pub one_arrow : (a b : ℕ) → leads arrows a b ≡ true → IsWay arrows a b
  one_arrow a b h = arrow_first a b b h (here b)

  way_on : (n : ℕ) (a b c : ℕ) → IsWayOf arrows n a b → IsWay arrows b c → IsWay arrows a c
  way_on zero a b c e w = subst (λ x. IsWay arrows x c) (sym e) w
  way_on (suc n) a b c w v = arrow_first a w.0 c w.1 (way_on n w.0 b c w.2 v)

  pub joined_ways : (a b c : ℕ) → IsWay arrows a b → IsWay arrows b c → IsWay arrows a c
  joined_ways a b c w v = way_on w.0 a b c w.1 v

  -- what is closed under arrows to it, is closed under ways to it
  pub closed_back : (P : ℕ → Type 0) → ((a b : ℕ) → leads arrows a b ≡ true → P b → P a) → (n a b : ℕ) → IsWayOf arrows n a b → P b → P a
  closed_back P closed zero a b e p = subst P (sym e) p
  closed_back P closed (suc n) a b w p = closed a w.0 w.1 (closed_back P closed n w.0 b w.2 p)

  -- a way of one arrow and more is what `reaches` says
  pub from_reaches : (n a b : ℕ) → reaches (leads arrows) (vertices arrows) n a b ≡ true → (c : ℕ) × (leads arrows a c ≡ true) × IsWay arrows c b
  from_reaches zero a b r = absurd (no_way (leads arrows) (vertices arrows) a b r)
  from_reaches (suc n) a b r = elim (first_arrow (leads arrows) (vertices arrows) n a b r) [
    | inl h ↦ (b, h, here b)
    | inr (c, in_c, h, rest) ↦ let k = from_reaches n c b rest in (c, h, arrow_first c k.0 b k.1 k.2)
  ]

  to_reaches : IsWithin arrows → (n a c b : ℕ) → leads arrows a c ≡ true → IsWayOf arrows n c b → (m : ℕ) × (reaches (leads arrows) (vertices arrows) m a b ≡ true)
  to_reaches within zero a c b h e = (1, direct (leads arrows) (vertices arrows) 0 a b (subst (λ x. leads arrows a x ≡ true) e h))
  to_reaches within (suc n) a c b h w =
      let k = to_reaches within n c w.0 b w.1 w.2 in
      let l = within a c h in
      (suc k.0, further (leads arrows) (vertices arrows) k.0 a c b (IsIn-range 0 (length arrows) c (omega arith) (omega arith)) h k.1)

  pub reaches_by_way : IsWithin arrows → (a c : ℕ) → leads arrows a c ≡ true → IsWay arrows c a → reaches_itself arrows a ≡ true
  unfolding reaches_vertex
  reaches_by_way within a c h w =
      let l = source_within arrows a c h in
      let k = to_reaches within w.0 a c a h w.1 in
      subst (λ n. reaches (leads arrows) (vertices arrows) n a a ≡ true) (length-range_with_len 0 (length arrows))
      (enough (leads arrows) (vertices arrows) k.0 a a (IsIn-range 0 (length arrows) a (omega arith) (omega arith)) k.1)

  pub way_by_reaches : (a : ℕ) → reaches_itself arrows a ≡ true → (c : ℕ) × (leads arrows a c ≡ true) × IsWay arrows c a
  unfolding reaches_vertex
  way_by_reaches a r = from_reaches (length arrows) a a r

  -- ---- chains

  pub chained_push : (gs : List ℕ) (c : ℕ) → AreChained arrows gs → ((g : ℕ) → IsIn g gs → IsWay arrows g c) → AreChained arrows (gs ++ c ∷ [])
  chained_push [] c h all = ((λ a k. absurd k), tt)
  chained_push (g ∷ gs) c h all = (
    (λ a k. last gs c a (h.0 a) (all g (inl refl)) k),
    chained_push gs c h.1 (λ x k. all x (inr k)),
  )
    where
      last : (xs : List ℕ) (c a : ℕ) → (IsIn a xs → IsWay arrows g a) → IsWay arrows g c → IsIn a (xs ++ c ∷ []) → IsWay arrows g a
      last [] c a before w (inl e) = subst (λ x. IsWay arrows g x) (sym e) w
      last [] c a before w (inr k) = absurd k
      last (x ∷ xs) c a before w (inl e) = before (inl e)
      last (x ∷ xs) c a before w (inr k) = last xs c a (λ m. before (inr m)) w k

  pub chained_rest : (gs : List ℕ) (t : ℕ) → AreChained arrows (gs ++ t ∷ []) → AreChained arrows gs
  chained_rest [] t h = tt
  chained_rest (g ∷ gs) t h = ((λ a k. h.0 a (in_front gs t a k)), chained_rest gs t h.1)
    where
      in_front : (xs : List ℕ) (t a : ℕ) → IsIn a xs → IsIn a (xs ++ t ∷ [])
      in_front [] t a k = absurd k
      in_front (x ∷ xs) t a (inl e) = inl e
      in_front (x ∷ xs) t a (inr k) = inr (in_front xs t a k)

  -- from each of a chain there is a way to its last one
  pub chained_to : (gs : List ℕ) (t g : ℕ) → AreChained arrows (gs ++ t ∷ []) → IsIn g (gs ++ t ∷ []) → IsWay arrows g t
  chained_to [] t g h (inl e) = subst (λ x. IsWay arrows x t) (sym e) (here t)
  chained_to [] t g h (inr k) = absurd k
  chained_to (x ∷ xs) t g h (inl e) = subst (λ y. IsWay arrows y t) (sym e) (h.0 t (at_end xs t))
    where
      at_end : (xs : List ℕ) (t : ℕ) → IsIn t (xs ++ t ∷ [])
      at_end [] t = inl refl
      at_end (x ∷ xs) t = inr (at_end xs t)
  chained_to (x ∷ xs) t g h (inr k) = chained_to xs t g h.1 k

-- the arrows turned round
module _ (arrows back : List (List ℕ)) (turned : IsTurned arrows back) where
  back_way : (n a b : ℕ) → IsWayOf back n a b → IsWay arrows b a
  back_way zero a b e = (0, sym e)
  back_way (suc n) a b w = joined_ways arrows b w.0 a (back_way n w.0 b w.2) (one_arrow arrows w.0 a (turned.home w.0 a w.1))

  pub turned_way : (a b : ℕ) → IsWay back a b → IsWay arrows b a
  turned_way a b w = back_way w.0 a b w.1

  pub turned_within : IsWithin back
  turned_within a b h = let l = source_within arrows b a (turned.home b a h) in subst (λ n. b < n) (sym turned.number) l
