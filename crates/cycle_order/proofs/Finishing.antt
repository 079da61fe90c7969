-- The depth-first pass along the arrows.
use Rattle.std.proofs.Common.{ℕ, zero, suc, ◌≡◌, ◌+◌, ◌<◌, ◌≤◌, length, List, [], ◌∷◌, ◌++◌, get_or, set, Bool, true, false, ◌⊎◌, inl, inr, refl, sym, ◌∙◌, ap, arith, subst}
use Rattle.std.proofs.lemmas.Bool.{cases_eq}
use Rattle.std.proofs.lemmas.List.{length-set, get_or-set_same, get_or-set_other}
use Rattle.law_base.specs.Members.{IsIn, AreDistinct}
use Rattle.law_base.proofs.Members.{IsIn-append, IsIn-append_first, IsIn-append_second}
use Rattle.cycle_order.specs.Reach.{leads, is_marked}
use Rattle.cycle_order.specs.Passes.{IsWayOf, IsWay, IsFinish, IsPassing, unfollowed}
use Rattle.cycle_order.proofs.Searching.{is_led_to, marked_within}
use Rattle.cycle_order.proofs.Marking.{marked-set}
use Rattle.cycle_order.proofs.Ways.{arrow_first, chained_push, chained_rest, chained_to}

-- ---- lists

at_end : (xs : List ℕ) (t : ℕ) → IsIn t (xs ++ t ∷ [])
at_end xs t = IsIn-append_second xs (t ∷ []) t (inl refl)

pub distinct_push : (xs : List ℕ) (t : ℕ) → AreDistinct xs → (IsIn t xs → ⊥) → AreDistinct (xs ++ t ∷ [])
distinct_push [] t h new = ((λ k. k), tt)
distinct_push (x ∷ xs) t h new = (
  (λ k. elim (IsIn-append xs (t ∷ []) x k) [ inl m ↦ h.0 m | inr m ↦ elim m [ inl e ↦ new (inl (sym e)) | inr m ↦ m ] ]),
  distinct_push xs t h.1 (λ k. new (inr k)),
)

pub distinct_rest : (xs : List ℕ) (t : ℕ) → AreDistinct (xs ++ t ∷ []) → AreDistinct xs × (IsIn t xs → ⊥)
distinct_rest [] t h = (tt, (λ k. k))
distinct_rest (x ∷ xs) t h =
    let rest = distinct_rest xs t h.1 in (
      ((λ k. h.0 (IsIn-append_first xs (t ∷ []) x k)), rest.0),
      (λ k. elim k [ inl e ↦ h.0 (subst (λ y. IsIn y (xs ++ t ∷ [])) e (at_end xs t)) | inr m ↦ rest.1 m ]),
    )

-- a list with one more item is parted at an item of it, or at the new one
parted_push : (xs earlier later : List ℕ) (t x : ℕ) → xs ++ t ∷ [] ≡ earlier ++ x ∷ later → ((rest : List ℕ) × (xs ≡ earlier ++ x ∷ rest)) ⊎ ((xs ≡ earlier) × (t ≡ x))
parted_push [] [] later t x e = inr (refl, cc)
parted_push [] (y ∷ ys) later t x e = absurd (too_long ys cc)
  where
    too_long : (ys : List ℕ) → [] ≡ ys ++ x ∷ later → ⊥
    too_long [] e = absurd cc
    too_long (y ∷ ys) e = absurd cc
parted_push (z ∷ zs) [] later t x e = let same : z ≡ x = cc in inl (zs, ap (λ y. y ∷ zs) same)
parted_push (z ∷ zs) (y ∷ ys) later t x e =
    let same : z ≡ y = cc in
    let rest : zs ++ t ∷ [] ≡ ys ++ x ∷ later = cc in
    elim (parted_push zs ys later t x rest) [
      | inl k ↦ inl (k.0, ap (λ w. w ∷ zs) same ∙ ap (λ ws. y ∷ ws) k.1)
      | inr k ↦ inr (ap (λ w. w ∷ zs) same ∙ ap (λ ws. y ∷ ws) k.0, k.1)
    ]

pub place_of : (xs : List ℕ) (x : ℕ) → IsIn x xs → (j : ℕ) × (j < length xs) × (get_or xs j 0 ≡ x)
place_of [] x h = absurd h
place_of (y ∷ ys) x (inl e) = (0, omega arith, sym e)
place_of (y ∷ ys) x (inr h) = let k = place_of ys x h in (suc k.0, omega arith, k.2)

-- ---- what is left to follow

pub one_followed : (arrows : List (List ℕ)) (next : List ℕ) (v : ℕ) → length next ≡ length arrows → v < length arrows → get_or next v 0 < length (get_or arrows v [])
    → unfollowed arrows (set next v (get_or next v 0 + 1)) + 1 ≡ unfollowed arrows next
one_followed [] next v e l k = absurd (omega arith)
one_followed (ts ∷ tss) [] v e l k = absurd (omega arith)
one_followed (ts ∷ tss) (n ∷ ns) zero e l k = let m : n < length ts = k in omega arith
one_followed (ts ∷ tss) (n ∷ ns) (suc v) e l k = let r = one_followed tss ns v (omega arith) (omega arith) k in omega arith

module _ (arrows : List (List ℕ)) where
  -- nothing is met at first
  pub passing_starts : (marks : List Bool) (next : List ℕ) → length marks ≡ length arrows → length next ≡ length arrows
      → ((v : ℕ) → is_marked marks v ≡ false) → ((v : ℕ) → get_or next v 0 ≡ 0) → IsPassing arrows marks next [] []
  passing_starts marks next number nexts none zero_ = record {
    number = number;
    nexts = nexts;
    met = λ v m. let f = none v in absurd cc;
    waits = λ v h. absurd h;
    done = λ v h. absurd h;
    looked = λ v j l. let z = zero_ v in absurd (omega arith);
    followed = λ v h. absurd h;
    chained = tt;
    once = tt;
    apart = λ v h. absurd h;
    distinct = tt;
    finished = λ earlier later x c w e. absurd (empty earlier x later e);
  }
    where
      empty : (ys : List ℕ) (x : ℕ) (later : List ℕ) → [] ≡ ys ++ x ∷ later → ⊥
      empty [] x later e = absurd cc
      empty (y ∷ ys) x later e = absurd cc

  -- a vertex is met, to which there is a way from each on the stack
  pub passing_meets : (marks : List Bool) (next stack order : List ℕ) (c : ℕ) → IsPassing arrows marks next stack order → c < length arrows → is_marked marks c ≡ false
      → ((g : ℕ) → IsIn g stack → IsWay arrows g c) → IsPassing arrows (set marks c true) next (stack ++ c ∷ []) order
  passing_meets marks next stack order c p l new ways = record {
    number = length-set marks c true ∙ p.number;
    nexts = p.nexts;
    met = λ v m. elim (marked-set marks c v below) [
      | inl e ↦ inl (subst (λ x. IsIn x (stack ++ c ∷ [])) (sym e) (at_end stack c))
      | inr e ↦ elim (p.met v (sym e ∙ m)) [ inl k ↦ inl (IsIn-append_first stack (c ∷ []) v k) | inr k ↦ inr k ]
    ];
    waits = λ v h. elim (IsIn-append stack (c ∷ []) v h) [
      | inl k ↦ kept v (p.waits v k)
      | inr k ↦ elim k [ inl e ↦ subst (λ x. is_marked (set marks c true) x ≡ true) (sym e) marked | inr k ↦ absurd k ]
    ];
    done = λ v h. kept v (p.done v h);
    looked = λ v j k. kept (get_or (get_or arrows v []) j 0) (p.looked v j k);
    followed = p.followed;
    chained = chained_push arrows stack c p.chained ways;
    once = distinct_push stack c p.once (λ k. let t = p.waits c k in absurd cc);
    apart = λ v h k. elim (IsIn-append stack (c ∷ []) v h) [
      | inl m ↦ p.apart v m k
      | inr m ↦ elim m [ inl e ↦ (let t = p.done v k in let f : is_marked marks v ≡ false = subst (λ x. is_marked marks x ≡ false) (sym e) new in absurd cc) | inr m ↦ m ]
    ];
    distinct = p.distinct;
    finished = p.finished;
  }
    where
      below : c < length marks
      below = subst (λ n. c < n) (sym p.number) l

      marked : is_marked (set marks c true) c ≡ true
      marked = get_or-set_same marks c true false below

      kept : (v : ℕ) → is_marked marks v ≡ true → is_marked (set marks c true) v ≡ true
      kept v m = elim (marked-set marks c v below) [ inl e ↦ subst (λ x. is_marked (set marks c true) x ≡ true) (sym e) marked | inr e ↦ e ∙ m ]

  -- one arrow more is followed, to a vertex that is met
  pub passing_follows : (marks : List Bool) (next stack order : List ℕ) (v : ℕ) → IsPassing arrows marks next stack order → v < length arrows
      → is_marked marks (get_or (get_or arrows v []) (get_or next v 0) 0) ≡ true → IsPassing arrows marks (set next v (get_or next v 0 + 1)) stack order
  passing_follows marks next stack order v p l met = record {
    number = p.number;
    nexts = length-set next v _ ∙ p.nexts;
    met = p.met;
    waits = p.waits;
    done = p.done;
    looked = λ u j k. elim (cases_eq u v) [
      | inl e ↦ here_looked u j e k
      | inr ne ↦ p.looked u j (subst (λ n. j < n) (get_or-set_other next v u (get_or next v 0 + 1) 0 ne) k)
    ];
    followed = λ u h. elim (cases_eq u v) [
      | inl e ↦
          let at = get_or-set_same next v (get_or next v 0 + 1) 0 below in
          let f = p.followed u h in
          subst (λ x. length (get_or arrows x []) ≤ get_or (set next v (get_or next v 0 + 1)) x 0) (sym e)
          (let g = subst (λ x. length (get_or arrows x []) ≤ get_or next x 0) e f in omega arith)
      | inr ne ↦ subst (λ n. length (get_or arrows u []) ≤ n) (sym (get_or-set_other next v u (get_or next v 0 + 1) 0 ne)) (p.followed u h)
    ];
    chained = p.chained;
    once = p.once;
    apart = p.apart;
    distinct = p.distinct;
    finished = p.finished;
  }
    where
      below : v < length next
      below = subst (λ n. v < n) (sym p.nexts) l

      here_looked : (u j : ℕ) → u ≡ v → j < get_or (set next v (get_or next v 0 + 1)) u 0 → is_marked marks (get_or (get_or arrows u []) j 0) ≡ true
      here_looked u j e k =
          let at = get_or-set_same next v (get_or next v 0 + 1) 0 below in
          let k' = subst (λ x. j < get_or (set next v (get_or next v 0 + 1)) x 0) e k in
          subst (λ x. is_marked marks (get_or (get_or arrows x []) j 0) ≡ true) (sym e) (elim (cases_eq j (get_or next v 0)) [
            | inl same ↦ subst (λ i. is_marked marks (get_or (get_or arrows v []) i 0) ≡ true) (sym same) met
            | inr ne ↦ p.looked v j (omega arith)
          ])

  -- the last of the stack is finished
  module _ (marks : List Bool) (next rest order : List ℕ) (v : ℕ) (p : IsPassing arrows marks next (rest ++ v ∷ []) order) (all : length (get_or arrows v []) ≤ get_or next v 0) where
    leads_on : (u c : ℕ) → length (get_or arrows u []) ≤ get_or next u 0 → leads arrows u c ≡ true → is_marked marks c ≡ true
    leads_on u c l h =
        let k = place_of (get_or arrows u []) c (is_led_to arrows u c h) in
        subst (λ x. is_marked marks x ≡ true) k.2 (p.looked u k.0 (omega arith))

    -- a way from what is met to what is not finished comes past the stack
    comes_back : (n c w : ℕ) → IsIn c (rest ++ v ∷ []) ⊎ IsIn c order → (IsIn w order → ⊥) → IsWayOf arrows n c w → IsWay arrows c v
    comes_back zero c w (inl k) open_ way = chained_to arrows rest v c p.chained k
    comes_back zero c w (inr k) open_ way = absurd (open_ (subst (λ x. IsIn x order) way k))
    comes_back (suc n) c w (inl k) open_ way = chained_to arrows rest v c p.chained k
    comes_back (suc n) c w (inr k) open_ way = arrow_first arrows c way.0 v way.1 (comes_back n way.0 w (p.met way.0 (leads_on c way.0 (p.followed c k) way.1)) open_ way.2)

    pub passing_finishes : IsPassing arrows marks next rest (order ++ v ∷ [])
    passing_finishes = record {
      number = p.number;
      nexts = p.nexts;
      met = λ u m. elim (p.met u m) [
        | inl k ↦ elim (IsIn-append rest (v ∷ []) u k) [
          | inl k ↦ inl k
          | inr k ↦ elim k [ inl e ↦ inr (subst (λ x. IsIn x (order ++ v ∷ [])) (sym e) (at_end order v)) | inr k ↦ absurd k ]
        ]
        | inr k ↦ inr (IsIn-append_first order (v ∷ []) u k)
      ];
      waits = λ u h. p.waits u (IsIn-append_first rest (v ∷ []) u h);
      done = λ u h. elim (IsIn-append order (v ∷ []) u h) [
        | inl k ↦ p.done u k
        | inr k ↦ elim k [ inl e ↦ subst (λ x. is_marked marks x ≡ true) (sym e) (p.waits v (at_end rest v)) | inr k ↦ absurd k ]
      ];
      looked = p.looked;
      followed = λ u h. elim (IsIn-append order (v ∷ []) u h) [
        | inl k ↦ p.followed u k
        | inr k ↦ elim k [ inl e ↦ subst (λ x. length (get_or arrows x []) ≤ get_or next x 0) (sym e) all | inr k ↦ absurd k ]
      ];
      chained = chained_rest arrows rest v p.chained;
      once = (distinct_rest rest v p.once).0;
      apart = λ u h k. elim (IsIn-append order (v ∷ []) u k) [
        | inl m ↦ p.apart u (IsIn-append_first rest (v ∷ []) u h) m
        | inr m ↦ elim m [ inl e ↦ (distinct_rest rest v p.once).1 (subst (λ x. IsIn x rest) e h) | inr m ↦ m ]
      ];
      distinct = distinct_push order v p.distinct (λ k. p.apart v (at_end rest v) k);
      finished = λ earlier later x c w e h open_ other way. elim (parted_push order earlier later v x e) [
        | inl k ↦ p.finished earlier k.0 x c w k.1 h open_ other way
        | inr k ↦
            let h' = subst (λ y. leads arrows y c ≡ true) (sym k.1) h in
            subst (λ y. IsWay arrows c y) k.1 (comes_back way.0 c w (p.met c (leads_on v c all h')) (λ m. open_ (subst (λ ys. IsIn w ys) k.0 m)) way.1)
      ];
    }

  pub top_within : (marks : List Bool) (next rest order : List ℕ) (v : ℕ) → IsPassing arrows marks next (rest ++ v ∷ []) order → v < length arrows
  top_within marks next rest order v p = subst (λ n. v < n) p.number (marked_within marks v (p.waits v (at_end rest v)))

  -- at the end all are finished
  pub all_finished : (marks : List Bool) (next order : List ℕ) → IsPassing arrows marks next [] order → ((v : ℕ) → v < length arrows → is_marked marks v ≡ true) → IsFinish arrows order
  all_finished marks next order p all = record {
    all = λ v l. elim (p.met v (all v l)) [ inl k ↦ absurd k | inr k ↦ k ];
    within = λ v h. subst (λ n. v < n) p.number (marked_within marks v (p.done v h));
    distinct = p.distinct;
    finished = p.finished;
  }
