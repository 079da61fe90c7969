-- Vertices in an order in which each arrow leads to a later one.
use Rattle.std.proofs.Common.{ℕ, zero, suc, ◌≡◌, ◌+◌, ◌<◌, ◌≤◌, length, List, [], ◌∷◌, ◌++◌, map, replicate, set, get_or, take, filter, Bool, true, false, cond, ◌⊎◌, inl, inr, refl, sym, ◌∙◌, ap, ap₂, arith, subst, eq-eqb}
use Rattle.std.specs.Prelude.{◌==◌}
use Rattle.std.specs.List.{list_any, flat_map, range_with_len}
use Rattle.std.proofs.lemmas.Bool.{eqb-true, ne_eqb}
use Rattle.std.proofs.lemmas.List.{length-set, get_or-set_other, get_or-take, take-append-le, take_all, append-nil}
use Rattle.std.proofs.lemmas.List.FromFn.{length-range_with_len, filter_of_map_range_with_len_more}
use Rattle.law_base.specs.Members.{IsIn, AreDistinct}
use Rattle.law_base.specs.Reaching.{reaches}
use Rattle.law_base.proofs.Members.{IsIn-append, IsIn-filter, IsIn-list_any, list_any-IsIn, AreDistinct-filter}
use Rattle.law_base.proofs.Reaching.{first_arrow, no_way}
use Rattle.law_base.proofs.Tests.{not_true}
use Rattle.cycle_order.specs.Reach.{leads, vertices, reaches_vertex, reaches_itself, IsWithin}
use Rattle.cycle_order.specs.Sorting.{AreFree, IsForward}
use Rattle.cycle_order.proofs.Finishing.{distinct_push, place_of}
use Rattle.cycle_order.proofs.Lists.{IsIn-get_or, IsIn-flat_map, IsIn-range, in_range}
use Rattle.cycle_order.proofs.Looks.{few_distinct}
use Rattle.cycle_order.proofs.Searching.{is_led_to, leads_to, source_within}

-- ---- lists

from_range : (a n v : ℕ) → IsIn v (range_with_len a n) → a ≤ v
from_range a zero v h = absurd h
from_range a (suc n) v (inl e) = omega arith
from_range a (suc n) v (inr h) = let l = from_range (a + 1) n v h in omega arith

distinct_range : (a n : ℕ) → AreDistinct (range_with_len a n)
distinct_range a zero = tt
distinct_range a (suc n) = ((λ h. let l = from_range (a + 1) n a h in absurd (omega arith)), distinct_range (a + 1) n)

pub IsIn-take : {X : Type 0} (n : ℕ) (xs : List X) (x : X) → IsIn x (take n xs) → IsIn x xs
IsIn-take zero xs x h = absurd h
IsIn-take (suc n) [] x h = absurd h
IsIn-take (suc n) (y ∷ ys) x (inl e) = inl e
IsIn-take (suc n) (y ∷ ys) x (inr h) = inr (IsIn-take n ys x h)

pub IsIn-take_more : (ts : List ℕ) (i v : ℕ) → i < length ts → IsIn v (take (suc i) ts) → IsIn v (take i ts) ⊎ (v ≡ get_or ts i 0)
IsIn-take_more [] i v l h = absurd (omega arith)
IsIn-take_more (t ∷ ts) zero v l (inl e) = inr e
IsIn-take_more (t ∷ ts) zero v l (inr h) = absurd h
IsIn-take_more (t ∷ ts) (suc i) v l (inl e) = inl (inl e)
IsIn-take_more (t ∷ ts) (suc i) v l (inr h) = elim (IsIn-take_more ts i v (omega arith) h) [ inl k ↦ inl (inr k) | inr e ↦ inr e ]

pub in_front : (xs ys : List ℕ) (v : ℕ) → take (length xs) ys ≡ xs → IsIn v xs → IsIn v ys
in_front xs ys v front h = IsIn-take (length xs) ys v (subst (λ zs. IsIn v zs) (sym front) h)

pub front_long : (xs ys : List ℕ) → take (length xs) ys ≡ xs → length xs ≤ length ys
front_long xs ys front = low (length xs) ys (ap length front)
  where
    low : (n : ℕ) (ys : List ℕ) → length (take n ys) ≡ n → n ≤ length ys
    low zero ys e = omega arith
    low (suc n) [] e = absurd (omega arith)
    low (suc n) (y ∷ ys) e = let l = low n ys (omega arith) in omega arith

pub front_same : (xs : List ℕ) → take (length xs) xs ≡ xs
front_same xs = take_all (length xs) xs (omega arith)

pub front_push : (xs ys : List ℕ) (v : ℕ) → take (length xs) ys ≡ xs → take (length xs) (ys ++ v ∷ []) ≡ xs
front_push xs ys v front = take-append-le (length xs) ys (v ∷ []) (front_long xs ys front) ∙ front

take_less : (m n : ℕ) (xs : List ℕ) → m ≤ n → take m (take n xs) ≡ take m xs
take_less zero n xs l = refl
take_less (suc m) zero xs l = absurd (omega arith)
take_less (suc m) (suc n) [] l = refl
take_less (suc m) (suc n) (x ∷ xs) l = ap (λ ys. x ∷ ys) (take_less m n xs (omega arith))

pub front_further : (xs ys zs : List ℕ) → take (length xs) ys ≡ xs → take (length ys) zs ≡ ys → take (length xs) zs ≡ xs
front_further xs ys zs first second = sym (take_less (length xs) (length ys) zs (front_long xs ys first)) ∙ ap (take (length xs)) second ∙ first

-- ---- vertices with no arrow to them

pub positive : (n : ℕ) → (n ≡ 0 → ⊥) → 0 < n
positive zero h = absurd (h refl)
positive (suc n) h = omega arith

pub free_first : (counts : List ℕ) → AreFree counts (filter (λ v. get_or counts v 0 == 0) (range_with_len 0 (length counts)))
free_first counts = record {
  within = λ v h. let l = in_range 0 (length counts) v (IsIn-filter (λ u. get_or counts u 0 == 0) (range_with_len 0 (length counts)) v h).0 in omega arith;
  once = AreDistinct-filter (λ u. get_or counts u 0 == 0) (range_with_len 0 (length counts)) (distinct_range 0 (length counts));
  none = λ v h. eqb-true (get_or counts v 0) 0 (IsIn-filter (λ u. get_or counts u 0 == 0) (range_with_len 0 (length counts)) v h).1;
}

module _ (counts : List ℕ) where
  abbrev unled : ℕ → Bool
  unled v = get_or counts v 0 == 0

  unled_to : (v : ℕ) → filter unled (range_with_len 0 (v + 1)) ≡ filter unled (range_with_len 0 v) ++ cond (unled v) (v ∷ []) []
  unled_to v =
      ap (filter unled) (sym (map_same (range_with_len 0 (v + 1))))
      ∙ filter_of_map_range_with_len_more unled (λ u. u) 0 v v (omega arith)
      ∙ ap (λ us. filter unled us ++ cond (unled v) (v ∷ []) []) (map_same (range_with_len 0 v))
    where
      map_same : (us : List ℕ) → map (λ u. u) us ≡ us
      map_same [] = refl
      map_same (u ∷ us) = ap (λ xs. u ∷ xs) (map_same us)

  pub one_unled : (v : ℕ) → get_or counts v 0 ≡ 0 → filter unled (range_with_len 0 v) ++ v ∷ [] ≡ filter unled (range_with_len 0 (v + 1))
  one_unled v is = ap (λ b. filter unled (range_with_len 0 v) ++ cond b (v ∷ []) []) (sym (eq-eqb (get_or counts v 0) 0 is)) ∙ sym (unled_to v)

  pub one_led : (v : ℕ) → (get_or counts v 0 ≡ 0 → ⊥) → filter unled (range_with_len 0 v) ≡ filter unled (range_with_len 0 (v + 1))
  one_led v not_ =
      sym (append-nil (filter unled (range_with_len 0 v)))
      ∙ ap (λ b. filter unled (range_with_len 0 v) ++ cond b (v ∷ []) []) (sym (ne_eqb (get_or counts v 0) 0 not_))
      ∙ sym (unled_to v)

module _ (counts free : List ℕ) (h : AreFree counts free) (v : ℕ) (some : 0 < get_or counts v 0) where
  pub not_free : IsIn v free → ⊥
  not_free m = let n = h.none v m in absurd (omega arith)

  pub free_lowered : (k : ℕ) → AreFree (set counts v k) free
  free_lowered k = record {
    within = λ u m. subst (λ n. u < n) (sym (length-set counts v k)) (h.within u m);
    once = h.once;
    none = λ u m. get_or-set_other counts v u k 0 (λ same. not_free (subst (λ w. IsIn w free) same m)) ∙ h.none u m;
  }

pub free_pushed : (counts free : List ℕ) (v : ℕ) → AreFree counts free → v < length counts → get_or counts v 0 ≡ 0 → (IsIn v free → ⊥) → AreFree counts (free ++ v ∷ [])
free_pushed counts free v h l is new = record {
  within = λ u m. elim (IsIn-append free (v ∷ []) u m) [ inl k ↦ h.within u k | inr k ↦ elim k [ inl e ↦ subst (λ w. w < length counts) (sym e) l | inr k ↦ absurd k ] ];
  once = distinct_push free v h.once new;
  none = λ u m. elim (IsIn-append free (v ∷ []) u m) [ inl k ↦ h.none u k | inr k ↦ elim k [ inl e ↦ ap (λ w. get_or counts w 0) e ∙ is | inr k ↦ absurd k ] ];
}

-- ---- a list in which arrows lead forward

pub forward_more : (arrows : List (List ℕ)) (order order' : List ℕ) (number : ℕ) → number < length order → take (length order) order' ≡ order → IsForward arrows order number
    → ((v : ℕ) → IsIn v (get_or arrows (get_or order number 0) []) → IsIn v order → ⊥) → IsForward arrows order' (number + 1)
forward_more arrows order order' number l front h later i j low up led =
    let at_j : get_or order' j 0 ≡ get_or order j 0 = same j (omega arith) in
    let at_i : get_or order' i 0 ≡ get_or order i 0 = same i (omega arith) in
    let led' : leads arrows (get_or order i 0) (get_or order j 0) ≡ true = subst (λ b. leads arrows (get_or order i 0) b ≡ true) at_j (subst (λ a. leads arrows a (get_or order' j 0) ≡ true) at_i led) in
    elim (last_or_before i number low) [
      | inl e ↦ later (get_or order j 0) (subst (λ k. IsIn (get_or order j 0) (get_or arrows (get_or order k 0) [])) e (is_led_to arrows (get_or order i 0) (get_or order j 0) led')) (IsIn-get_or order j 0 (omega arith))
      | inr k ↦ h i j k up led'
    ]
  where
    same : (k : ℕ) → k < length order → get_or order' k 0 ≡ get_or order k 0
    same k m = sym (get_or-take (length order) order' k 0 m) ∙ ap (λ xs. get_or xs k 0) front

    last_or_before : (i n : ℕ) → i < n + 1 → (i ≡ n) ⊎ (i < n)
    last_or_before i n l = grind arith

module _ (arrows : List (List ℕ)) (counts order : List ℕ) (within : IsWithin arrows) (number : length counts ≡ length arrows) (free : AreFree counts order) (all : length arrows ≤ length order)
    (forward : IsForward arrows order (length arrows)) where
  in_vertices : (v : ℕ) → IsIn v order → IsIn v (range_with_len 0 (length arrows))
  in_vertices v m = let l = free.within v m in IsIn-range 0 (length arrows) v (omega arith) (omega arith)

  no_more : length order ≤ length arrows
  no_more = let l = few_distinct order (range_with_len 0 (length arrows)) free.once in_vertices in let n = length-range_with_len 0 (length arrows) in omega arith

  listed : (v : ℕ) → v < length arrows → IsIn v order
  listed v l = by_test (list_any (λ u. u == v) order) refl
    where
      by_test : (b : Bool) → list_any (λ u. u == v) order ≡ b → IsIn v order
      by_test true t = let found = IsIn-list_any (λ (u : ℕ). u == v) order t in subst (λ u. IsIn u order) (eqb-true found.0 v found.2) found.1
      by_test false t =
          let more = few_distinct (v ∷ order) (range_with_len 0 (length arrows))
          ((λ m. let t' = list_any-IsIn (λ (u : ℕ). u == v) order v m (eq-eqb v v refl) in absurd cc), free.once)
          (λ u m. elim m [ inl e ↦ subst (λ w. IsIn w (range_with_len 0 (length arrows))) (sym e) (IsIn-range 0 (length arrows) v (omega arith) (omega arith)) | inr k ↦ in_vertices u k ]) in
          let n = length-range_with_len 0 (length arrows) in
          absurd (omega arith)

  -- where an arrow leads, the list goes on
  rises : (a b i : ℕ) → i < length arrows → get_or order i 0 ≡ a → leads arrows a b ≡ true → (j : ℕ) × (i < j) × (j < length arrows) × (get_or order j 0 ≡ b)
  rises a b i l at led =
      let place = place_of order b (listed b (within a b led)) in
      elim (later_or_not place.0 i) [
        | inl k ↦ (place.0, k, (let n = no_more in let m = place.1 in omega arith), place.2)
        | inr k ↦ absurd (forward i place.0 l k (subst (λ x. leads arrows (get_or order i 0) x ≡ true) (sym place.2) (subst (λ x. leads arrows x b ≡ true) (sym at) led)))
      ]
    where
      later_or_not : (j i : ℕ) → (i < j) ⊎ (j ≤ i)
      later_or_not j i = grind arith

  goes_up : (n a b i : ℕ) → i < length arrows → get_or order i 0 ≡ a → reaches (leads arrows) (vertices arrows) n a b ≡ true → (j : ℕ) × (i < j) × (j < length arrows) × (get_or order j 0 ≡ b)
  goes_up zero a b i l at r = absurd (no_way (leads arrows) (vertices arrows) a b r)
  goes_up (suc n) a b i l at r = elim (first_arrow (leads arrows) (vertices arrows) n a b r) [
    | inl led ↦ rises a b i l at led
    | inr (c, in_c, led, rest) ↦
        let first = rises a c i l at led in
        let then_ = goes_up n c b first.0 first.2 first.3 rest in
        (then_.0, (let k = first.1 in let m = then_.1 in omega arith), then_.2, then_.3)
  ]

  -- so it does not come back
  never : (left i v : ℕ) → length arrows ≤ left + i → i < length arrows → get_or order i 0 ≡ v → reaches_itself arrows v ≡ true → ⊥
  unfolding reaches_vertex
  never zero i v past l at r = absurd (omega arith)
  never (suc left) i v past l at r = let next = goes_up (length arrows) v v i l at r in never left next.0 v (let k = next.1 in omega arith) next.2 next.3 r

  starts : (n a b : ℕ) → reaches (leads arrows) (vertices arrows) n a b ≡ true → a < length arrows
  starts zero a b r = absurd (no_way (leads arrows) (vertices arrows) a b r)
  starts (suc n) a b r = elim (first_arrow (leads arrows) (vertices arrows) n a b r) [
    | inl led ↦ source_within arrows a b led
    | inr (c, in_c, led, rest) ↦ source_within arrows a c led
  ]

  there : (v : ℕ) → reaches_itself arrows v ≡ true → v < length arrows
  unfolding reaches_vertex
  there v r = starts (length arrows) v v r

  pub no_cycle : (v : ℕ) → reaches_itself arrows v ≡ false
  no_cycle v = not_true (reaches_itself arrows v) (λ r.
      let place = place_of order v (listed v (there v r)) in
      never (length arrows) place.0 v (omega arith) (let n = no_more in let m = place.1 in omega arith) place.2 r)

pub none_marked : (arrows : List (List ℕ)) → ((v : ℕ) → reaches_itself arrows v ≡ false) → replicate (length arrows) false ≡ map (reaches_itself arrows) (vertices arrows)
none_marked arrows none = same (reaches_itself arrows) none 0 (length arrows)
  where
    same : (f : ℕ → Bool) → ((v : ℕ) → f v ≡ false) → (a n : ℕ) → replicate n false ≡ map f (range_with_len a n)
    same f none a zero = refl
    same f none a (suc n) = ap₂ (λ b bs. b ∷ bs) (sym (none a)) (same f none (a + 1) n)

-- ---- where arrows lead

list_at : (xss : List (List ℕ)) (xs : List ℕ) → IsIn xs xss → (i : ℕ) × (get_or xss i [] ≡ xs)
list_at [] xs h = absurd h
list_at (ys ∷ yss) xs (inl e) = (0, sym e)
list_at (ys ∷ yss) xs (inr h) = let k = list_at yss xs h in (suc k.0, k.1)

pub targets_within : (arrows : List (List ℕ)) → IsWithin arrows → (v : ℕ) → IsIn v (flat_map (λ targets. targets) arrows) → v < length arrows
targets_within arrows within v h =
    let found = IsIn-flat_map (λ (targets : List ℕ). targets) arrows v h in
    let place = list_at arrows found.0 found.1 in
    within place.0 v (leads_to arrows place.0 v (subst (λ xs. IsIn v xs) (sym place.1) found.2))
