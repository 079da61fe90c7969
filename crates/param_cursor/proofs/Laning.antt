-- Quotients of which the lower 32 bits are kept, side by side.
use Rattle.std.proofs.Common.{ℕ, ℤ, pos, negsuc, ◌≡◌, ◌≢◌, ◌+◌, ◌-◌, ◌*◌, ◌<◌, ◌≤◌, ◌^◌, ◌+ℤ◌, ◌-ℤ◌, ◌*ℤ◌, ◌<ℤ◌, ◌≤ℤ◌, List, length, slice_index_or, slice_set, get_or-set_same, get_or-set_other, FitsSigned, arith, subst, ap, sym, ◌∙◌, refl, inl, inr}
use Rattle.std.specs.Int.{w32, w64, int_wrap, int_div_euclid}
use Rattle.std.specs.Prelude.{unsigned_abs}
use Rattle.std.proofs.lemmas.Int.{ints, unsigned_abs-mul, int_wrap_fits, int_wrap-add_left, int_wrap-add_right, int_wrap-add_same}
use Rattle.param_cursor.specs.Lanes.{IsRest, IsPart, AreParts, AreLanes}
use Rattle.param_cursor.specs.Rising.{Rising, numerator_on, value_on}
use Rattle.param_cursor.specs.declared.lanes.Lanes.{Lanes}
use Rattle.param_events.proofs.Euclid.{euclid_is}
use Rattle.param_events.proofs.Order.{order}
use Rattle.param_cursor.proofs.Draws.{numerator_more}
use Rattle.param_cursor.proofs.Parts.{distrib, step_below, step_over}

small : (x v : ℤ) → unsigned_abs x ≤ 2 ^ 31 → unsigned_abs v ≤ 2 ^ 34 → unsigned_abs (x +ℤ v) ≤ 2 ^ 40
small x v a b = omega (arith, ints)

bounds_32 : (z : ℤ) → FitsSigned w32 z → unsigned_abs z ≤ 2 ^ 31
bounds_32 (pos n) h = omega (arith, ints)
bounds_32 (negsuc n) h = omega (arith, ints)

fits_40 : (z : ℤ) → unsigned_abs z ≤ 2 ^ 40 → FitsSigned w64 z
fits_40 (pos n) h = record { sfits = omega (arith, ints) }
fits_40 (negsuc n) h = record { sfits = omega (arith, ints) }

-- a value and a quotient
pub first_fits : (x v : ℤ) → FitsSigned w32 x → unsigned_abs v ≤ 2 ^ 34 → FitsSigned w64 (x +ℤ v)
first_fits x v a b = fits_40 (x +ℤ v) (small x v (bounds_32 x a) b)

pub way_fits : (p q : ℤ) → unsigned_abs p ≤ 2 ^ 34 → unsigned_abs q ≤ 2 ^ 35 → FitsSigned w64 (q -ℤ p)
way_fits p q a b = fits_40 (q -ℤ p) (omega (arith, ints))

pub way_past_fits : (p q : ℤ) → unsigned_abs p ≤ 2 ^ 34 → unsigned_abs q ≤ 2 ^ 35 → FitsSigned w64 (q -ℤ p -ℤ pos 1)
way_past_fits p q a b = fits_40 (q -ℤ p -ℤ pos 1) (omega (arith, ints))

-- what leads from one quotient to another
pub way_is : (p q : ℤ) (r t d : ℕ) → r ≤ t → p *ℤ pos d +ℤ pos r +ℤ ((q -ℤ p) *ℤ pos d +ℤ pos (t - r)) ≡ q *ℤ pos d +ℤ pos t
way_is p q r t d l =
    let apart = distrib p (q -ℤ p) d in
    let whole : p +ℤ (q -ℤ p) ≡ q = omega (arith, ints) in
    let sum : q *ℤ pos d ≡ p *ℤ pos d +ℤ (q -ℤ p) *ℤ pos d = ap (λ z. z *ℤ pos d) (sym whole) ∙ apart in
    omega (arith, ints, sum, l)

pub way_past_is : (p q : ℤ) (r t d : ℕ) → r < d → p *ℤ pos d +ℤ pos r +ℤ ((q -ℤ p -ℤ pos 1) *ℤ pos d +ℤ pos (t + (d - r))) ≡ q *ℤ pos d +ℤ pos t
way_past_is p q r t d l =
    let apart = distrib p (q -ℤ p -ℤ pos 1) d in
    let back = distrib (p +ℤ (q -ℤ p -ℤ pos 1)) (pos 1) d in
    let whole : p +ℤ (q -ℤ p -ℤ pos 1) +ℤ pos 1 ≡ q = omega (arith, ints) in
    let sum : q *ℤ pos d ≡ (p +ℤ (q -ℤ p -ℤ pos 1)) *ℤ pos d +ℤ pos 1 *ℤ pos d = ap (λ z. z *ℤ pos d) (sym whole) ∙ back in
    omega (arith, ints, sum, apart, l)

-- eight steps of a slope that is not steep
pub eight_within : (s : ℤ) (d : ℕ) → unsigned_abs s ≤ (2 ^ 26 + 1) * d → unsigned_abs (s *ℤ pos 8) ≤ (2 ^ 29 + 8) * d
eight_within s d h = rw (unsigned_abs-mul s (pos 8)) (omega (arith, h))

pub fits_32 : (z : ℤ) → unsigned_abs z ≤ 2 ^ 29 + 8 → FitsSigned w32 z
fits_32 (pos n) h = record { sfits = omega (arith, ints) }
fits_32 (negsuc n) h = record { sfits = omega (arith, ints) }

pub near_within : (n s : ℤ) (d : ℕ) → unsigned_abs n ≤ 2 ^ 34 * d → unsigned_abs (s *ℤ pos 8) ≤ (2 ^ 29 + 8) * d → unsigned_abs (n +ℤ s *ℤ pos 8) ≤ 2 ^ 35 * d
near_within n s d a b = omega (arith, ints)

pub no_step : (n s : ℤ) → n +ℤ s *ℤ pos 0 ≡ n
no_step n (pos a) = omega (arith, ints)
no_step n (negsuc a) = omega (arith, ints)

pub one_more_step : (s : ℤ) (i : ℕ) → s *ℤ pos (i + 1) ≡ s *ℤ pos i +ℤ s
one_more_step (pos a) i = omega (arith, ints)
one_more_step (negsuc a) i = omega (arith, ints)

below_32 : (z : ℤ) → pos 0 ≤ℤ z → z <ℤ pos (2 ^ 31) → FitsSigned w32 z
below_32 (pos n) l h = record { sfits = omega (arith, ints) }
below_32 (negsuc n) l h = absurd (omega (arith, ints))

-- two remainders fit together
pub sum_of_rests : (r t e : ℤ) → IsRest r e → IsRest t e → e ≤ℤ pos (2 ^ 30) → FitsSigned w32 (r +ℤ t)
sum_of_rests r t e a b small =
    let some = a.least in let more = b.least in
    let low = a.below in let below = b.below in
    below_32 (r +ℤ t) (omega (arith, ints)) (omega (arith, ints))

pub rest_past : (r t e : ℤ) → IsRest r e → IsRest t e → e ≤ℤ pos (2 ^ 30) → e ≤ℤ (r +ℤ t) → FitsSigned w32 (r +ℤ t -ℤ e)
rest_past r t e a b small high =
    let some = a.least in let more = b.least in
    let low = a.below in let below = b.below in
    below_32 (r +ℤ t -ℤ e) (omega (arith, ints)) (omega (arith, ints))

-- a quotient that fits
pub part_of : (v n : ℤ) (r d : ℕ) → v *ℤ pos d +ℤ pos r ≡ n → r < d → FitsSigned w32 v → IsPart v (pos r) n d
part_of v n r d e low fits = record { quotient = v; remainder = r; is = e; below = low; bits = sym (int_wrap_fits w32 v fits); left = refl }

-- one that is added to a value
pub part_from : (x v n : ℤ) (r d : ℕ) → v *ℤ pos d +ℤ pos r ≡ n → r < d → FitsSigned w32 (x +ℤ v) → IsPart (x +ℤ v) (pos r) (x *ℤ pos d +ℤ n) d
part_from x v n r d e low fits = let b = distrib x v d in part_of (x +ℤ v) (x *ℤ pos d +ℤ n) r d (omega (arith, ints, b, e)) low fits

-- the value on a slope, where that fits
pub value_is : (v r x n : ℤ) (d : ℕ) → IsPart v r (x *ℤ pos d +ℤ n) d → FitsSigned w32 (x +ℤ int_div_euclid n (pos d)) → v ≡ x +ℤ int_div_euclid n (pos d)
value_is v r x n d p fits =
    let is = p.is in
    let apart = distrib (p.quotient -ℤ x) x d in
    let back : p.quotient -ℤ x +ℤ x ≡ p.quotient = omega (arith, ints) in
    let whole : p.quotient *ℤ pos d ≡ (p.quotient -ℤ x) *ℤ pos d +ℤ x *ℤ pos d = ap (λ z. z *ℤ pos d) (sym back) ∙ apart in
    let q = euclid_is n (p.quotient -ℤ x) p.remainder d p.below (omega (arith, ints, whole, is)) in
    let sum : p.quotient ≡ x +ℤ int_div_euclid n (pos d) = omega (arith, ints, q) in
    p.bits ∙ ap (int_wrap w32) sum ∙ int_wrap_fits w32 _ fits

-- what is added is one more than the lower bits of a quotient
wrapped : (v w a p q : ℤ) → v ≡ int_wrap w32 p → w ≡ int_wrap w32 q → a ≡ int_wrap w32 (w +ℤ pos 1) → int_wrap w32 (v +ℤ a) ≡ int_wrap w32 (p +ℤ q +ℤ pos 1)
wrapped v w a p q e f above =
    let more : a ≡ int_wrap w32 (q +ℤ pos 1) = above ∙ ap (λ z. int_wrap w32 (z +ℤ pos 1)) f ∙ int_wrap-add_left w32 q (pos 1) in
    let sum : p +ℤ (q +ℤ pos 1) ≡ p +ℤ q +ℤ pos 1 = omega (arith, ints) in
    ap (λ z. int_wrap w32 (z +ℤ a)) e ∙ int_wrap-add_left w32 p a ∙ ap (λ z. int_wrap w32 (p +ℤ z)) more ∙ int_wrap-add_right w32 p (q +ℤ pos 1) ∙ ap (int_wrap w32) sum

wrapped_below : (v w a p q : ℤ) → v ≡ int_wrap w32 p → w ≡ int_wrap w32 q → a ≡ int_wrap w32 (w +ℤ pos 1) → int_wrap w32 (v +ℤ a -ℤ pos 1) ≡ int_wrap w32 (p +ℤ q)
wrapped_below v w a p q e f above =
    let less : v +ℤ a -ℤ pos 1 ≡ v +ℤ a +ℤ negsuc 0 = omega (arith, ints) in
    let same : p +ℤ q +ℤ pos 1 +ℤ negsuc 0 ≡ p +ℤ q = omega (arith, ints) in
    ap (int_wrap w32) less ∙ int_wrap-add_same w32 (v +ℤ a) (p +ℤ q +ℤ pos 1) (negsuc 0) (wrapped v w a p q e f above) ∙ ap (int_wrap w32) same

-- to wrap before one is taken away changes nothing
pub wrapped_less : (z : ℤ) → int_wrap w32 (int_wrap w32 z -ℤ pos 1) ≡ int_wrap w32 (z -ℤ pos 1)
wrapped_less z = int_wrap-add_left w32 z (negsuc 0)

-- a quotient that another one raises, over the same divisor
pub raised_is : (v r w t a m n x y e : ℤ) (d : ℕ) → IsPart v r m d → IsPart w t n d → e ≡ pos d → a ≡ int_wrap w32 (w +ℤ pos 1)
    → ((r +ℤ t) <ℤ e → (x ≡ int_wrap w32 (v +ℤ a -ℤ pos 1)) × (y ≡ r +ℤ t))
    → (e ≤ℤ (r +ℤ t) → (x ≡ int_wrap w32 (v +ℤ a)) × (y ≡ r +ℤ t -ℤ e))
    → IsPart x y (m +ℤ n) d
raised_is v r w t a m n x y e d f g same above below over =
    let is = f.is in let by = g.is in
    let low = g.below in
    let had = f.below in
    let left = f.left in let added = g.left in
    elim (order d (f.remainder + g.remainder)) [
      | inl up ↦
          let got = over (omega (arith, ints, same, left, added)) in
          let sum = step_over f.quotient g.quotient f.remainder g.remainder d low (omega (arith, low, up)) in
          let rest = got.1 in
          record {
            quotient = f.quotient +ℤ g.quotient +ℤ pos 1;
            remainder = f.remainder - (d - g.remainder);
            is = omega (arith, ints, sum, is, by);
            below = omega (arith, had, low, up);
            bits = got.0 ∙ wrapped v w a f.quotient g.quotient f.bits g.bits above;
            left = omega (arith, ints, rest, same, left, added, low, up);
          }
      | inr less ↦
          let got = below (omega (arith, ints, same, left, added)) in
          let sum = step_below f.quotient g.quotient f.remainder g.remainder d in
          let rest = got.1 in
          record {
            quotient = f.quotient +ℤ g.quotient;
            remainder = f.remainder + g.remainder;
            is = omega (arith, ints, sum, is, by);
            below = less;
            bits = got.0 ∙ wrapped_below v w a f.quotient g.quotient f.bits g.bits above;
            left = omega (arith, ints, rest, left, added);
          }
    ]

pub parts_more : (values rests : List ℤ) (start step v r : ℤ) (d i : ℕ) → AreParts values rests start step d i → i < length values → i < length rests
    → IsPart v r (start +ℤ step *ℤ pos i) d → AreParts (slice_set values i v) (slice_set rests i r) start step d (i + 1)
parts_more values rests start step v r d i so_far in_values in_rests own j low = elim (order i j) [
  | inl up ↦
      let same : i ≡ j = omega arith in
      subst (λ k. IsPart (slice_index_or (slice_set values i v) k (pos 0)) (slice_index_or (slice_set rests i r) k (pos 0)) (start +ℤ step *ℤ pos k) d) same
      (rw (get_or-set_same values i v (pos 0) in_values) (rw (get_or-set_same rests i r (pos 0) in_rests) own))
  | inr less ↦
      let other : j ≢ i = omega arith in
      rw (get_or-set_other values i j v (pos 0) other) (rw (get_or-set_other rests i j r (pos 0) other) (so_far j less))
]

-- what a lane holds, where that fits
pub lane_value : (lanes : Lanes) (x : ℤ) (r : Rising) (k i : ℕ) → AreLanes lanes (x *ℤ pos r.divisor +ℤ numerator_on r k) r.step r.divisor → i < 8 → FitsSigned w32 (value_on x r (k + i))
    → slice_index_or lanes.values i (pos 0) ≡ value_on x r (k + i)
lane_value lanes x r k i h low fits =
    let more = numerator_more r k i in
    let on : x *ℤ pos r.divisor +ℤ numerator_on r k +ℤ r.step *ℤ pos i ≡ x *ℤ pos r.divisor +ℤ numerator_on r (k + i) = omega (arith, ints, more) in
    value_is (slice_index_or lanes.values i (pos 0)) (slice_index_or lanes.rests i (pos 0)) x (numerator_on r (k + i)) r.divisor
    (subst (λ z. IsPart (slice_index_or lanes.values i (pos 0)) (slice_index_or lanes.rests i (pos 0)) z r.divisor) on (h.each i low)) fits

pub lanes_on : (lanes : Lanes) (x : ℤ) (r : Rising) (k j : ℕ) → AreLanes lanes (x *ℤ pos r.divisor +ℤ numerator_on r k +ℤ r.step *ℤ pos 8) r.step r.divisor → j ≡ k + 8
    → AreLanes lanes (x *ℤ pos r.divisor +ℤ numerator_on r j) r.step r.divisor
lanes_on lanes x r k j h e =
    let more = numerator_more r k 8 in
    let on : x *ℤ pos r.divisor +ℤ numerator_on r k +ℤ r.step *ℤ pos 8 ≡ x *ℤ pos r.divisor +ℤ numerator_on r (k + 8) = omega (arith, ints, more) in
    subst (λ z. AreLanes lanes z r.step r.divisor) (on ∙ ap (λ i. x *ℤ pos r.divisor +ℤ numerator_on r i) (sym e)) h
