-- A mixed channel is the sum of all channels by their weights.
use Rattle.std.proofs.Common.{ℕ, zero, suc, ℤ, pos, negsuc, ◌≡◌, ◌<◌, ◌+◌, ◌-◌, ◌*◌, ◌/◌, ◌+ℤ◌, ◌*ℤ◌, ◌==◌, List, [], ◌∷◌, Bool, true, false, refl, sym, ap, ap₂, ◌∙◌, arith}
use Rattle.std.specs.Prelude.{if◌then◌else◌, nat_lt, unsigned_abs}
use Rattle.std.specs.Int.{int_div_euclid}
use Rattle.std.proofs.lemmas.Bool.Decides.{nat_tests}
use Rattle.std.proofs.lemmas.Int.{ints}
use Rattle.std.proofs.lemmas.Nat.{div-mul-add}
use Rattle.std.proofs.Math.IntN.{*ℤ_comm, *ℤ-zero, +ℤ_idl}
use Rattle.std.proofs.Math.Nat.{mul-div-mul_left, div-div-eq-div-mul}
use Rattle.wa_base.specs.Numbers.{rnd}
use Rattle.wa_base.specs.declared.graph_names.Interp.{Interp}
use Rattle.param_events.proofs.Euclid.{rnd_whole}
use Rattle.mix_rules.specs.Mixing.{Form, one, form, weighed, mix}
use Rattle.mix_rules.proofs.Forms.{weighed_of_times, weighed_of_sum}
use Rattle.explain.proofs.Mixes.{mix_reads}
use Rattle.equations.specs.Weights.{one_on}

-- ---- products

times_sum : (f g x : ℤ) → (f +ℤ g) *ℤ x ≡ f *ℤ x +ℤ g *ℤ x
times_sum f g x = let e = weighed_of_sum (f ∷ []) (g ∷ []) 0 (λ k. x) in omega (arith, ints, e)

sum_times : (k x y : ℤ) → k *ℤ (x +ℤ y) ≡ k *ℤ x +ℤ k *ℤ y
sum_times k x y = *ℤ_comm k (x +ℤ y) ∙ times_sum x y k ∙ ap₂ (λ (v w : ℤ). v +ℤ w) (*ℤ_comm x k) (*ℤ_comm y k)

times_times : (k : ℕ) (f x : ℤ) → (pos k *ℤ f) *ℤ x ≡ pos k *ℤ (f *ℤ x)
times_times k f x =
    let e = weighed_of_times k (f ∷ []) 0 (λ k. x) in
    let d = sum_times (pos k) (f *ℤ x) (pos 0) in
    omega (arith, ints, e, d)

-- ---- a linear form of the first channels of a frame, by one more of them

abbrev alone : ℕ → ℤ → ℕ → ℤ
alone n x = λ c. if c == n then x else pos 0

abbrev first : ℕ → (ℕ → ℤ) → ℕ → ℤ
first n frame = λ c. if nat_lt c n then frame c else pos 0

weighed_none : (fs : List ℤ) (i : ℕ) (frame : ℕ → ℤ) → weighed fs i (first 0 frame) ≡ pos 0
weighed_none [] i frame = refl
weighed_none (f ∷ fs) i frame =
    let none : nat_lt i 0 ≡ false = grind (arith, nat_tests) in
    let rest = weighed_none fs (i + 1) frame in
    ap (λ t. f *ℤ (if t then frame i else pos 0) +ℤ weighed fs (i + 1) (first 0 frame)) none ∙ omega (arith, ints, rest)

weighed_alone : (fs : List ℤ) (i n : ℕ) (x : ℤ) → weighed fs i (alone n x) ≡ weighed fs i (alone n (pos 1)) *ℤ x
weighed_alone [] i n x = omega (arith, ints)
weighed_alone (f ∷ fs) i n x = by_test (i == n) (weighed_alone fs (i + 1) n x)
  where
    rest : ℤ
    rest = weighed fs (i + 1) (alone n (pos 1))

    by_test : (b : Bool) → weighed fs (i + 1) (alone n x) ≡ rest *ℤ x → f *ℤ (if b then x else pos 0) +ℤ weighed fs (i + 1) (alone n x) ≡ (f *ℤ (if b then pos 1 else pos 0) +ℤ rest) *ℤ x
    by_test true before = let whole : f *ℤ pos 1 ≡ f = omega (arith, ints) in rw (before, whole) (sym (times_sum f rest x))
    by_test false before = let none : f *ℤ pos 0 ≡ pos 0 = *ℤ-zero f in rw (before, none, +ℤ_idl rest, +ℤ_idl (rest *ℤ x)) refl

weighed_more : (fs : List ℤ) (i n : ℕ) (frame : ℕ → ℤ) → weighed fs i (first (suc n) frame) ≡ weighed fs i (first n frame) +ℤ weighed fs i (alone n (frame n))
weighed_more [] i n frame = omega (arith, ints)
weighed_more (f ∷ fs) i n frame =
    let here : first (suc n) frame i ≡ first n frame i +ℤ alone n (frame n) i = grind (arith, ints, nat_tests) in
    let e = sum_times f (first n frame i) (alone n (frame n) i) in
    let rest = weighed_more fs (i + 1) n frame in
    ap (λ (z : ℤ). f *ℤ z +ℤ weighed fs (i + 1) (first (suc n) frame)) here ∙ omega (arith, ints, e, rest)

-- ---- the divisors of the forms

-- the number of times that a form's divisor goes into one
abbrev times_of : Form → ℕ
times_of f = 16777216 / unsigned_abs f.divisor

record IsExact (f : Form) : Type 0 where
  positive : f.divisor ≡ pos (unsigned_abs f.divisor)
  whole : times_of f * unsigned_abs f.divisor ≡ 16777216

form_exact : (interp : Interp) (from to c : ℕ) → IsExact (form interp from to c)
unfolding form
form_exact interp from to c = record { positive = grind arith; whole = grind arith }

scaled : (m b : ℕ) → 0 < m → (z : ℤ) → int_div_euclid (pos m *ℤ z) (pos (m * b)) ≡ int_div_euclid z (pos b)
scaled m b some (pos a) = ap pos (mul-div-mul_left a b some)
scaled m b some (negsuc a) =
    let below : pos m *ℤ negsuc a ≡ negsuc (a * m + (m - 1)) = omega (arith, ints) in
    ap (λ (v : ℤ). int_div_euclid v (pos (m * b))) below
    ∙ ap negsuc (sym (div-div-eq-div-mul (a * m + (m - 1)) m b) ∙ ap (λ k. k / b) (div-mul-add a m (m - 1) (omega arith)))

rnd_scaled : (m d : ℕ) (s : ℤ) → 0 < m → rnd (pos m *ℤ s) (pos (m * d)) ≡ rnd s (pos d)
rnd_scaled m d s some =
    let twice : pos 2 *ℤ s ≡ s +ℤ s = omega (arith, ints) in
    let apart = sum_times (pos m) (pos 2 *ℤ s) (pos d) in
    let doubled = ap (λ (z : ℤ). pos m *ℤ z) twice ∙ sum_times (pos m) s s in
    let above : pos 2 *ℤ (pos m *ℤ s) +ℤ pos (m * d) ≡ pos m *ℤ (pos 2 *ℤ s +ℤ pos d) = omega (arith, ints, apart, doubled) in
    let below : 2 * (m * d) ≡ m * (2 * d) = omega arith in
    ap₂ (λ (v : ℤ) k. int_div_euclid v (pos k)) above below ∙ scaled m (2 * d) some (pos 2 *ℤ s +ℤ pos d)

grouped : (m d : ℕ) (g : ℤ) → g *ℤ pos (m * d) ≡ (pos m *ℤ g) *ℤ pos d
grouped m d g = *ℤ_comm g (pos (m * d)) ∙ times_times m (pos d) g ∙ ap (λ (z : ℤ). pos m *ℤ z) (*ℤ_comm (pos d) g) ∙ sym (times_times m g (pos d))

some_factors : (m d : ℕ) → m * d ≡ 16777216 → (0 < m) × (0 < d)
some_factors zero d is = absurd (omega (arith, is))
some_factors (suc m) zero is = absurd (omega (arith, is))
some_factors (suc m) (suc d) is = (omega arith, omega arith)

-- ---- a mixed channel

-- the sum of the first channels, by their weights
abbrev pub weighted : (ℕ → ℤ) → (ℕ → ℤ) → ℕ → ℤ
weighted w frame zero = pos 0
weighted w frame (suc n) = weighted w frame n +ℤ w n *ℤ frame n

module _ (interp : Interp) (from to c : ℕ) where
  abbrev f : Form
  f = form interp from to c

  abbrev unit : ℕ → ℤ
  unit n = weighed f.factors 0 (alone n (pos 1))

  abbrev pub weight : ℕ → ℤ
  weight n = mix interp from to (one_on n) c

  weight_is : (n : ℕ) → weight n ≡ pos (times_of f) *ℤ unit n
  unfolding mix
  weight_is n =
      let exact = form_exact interp from to c in
      ap (λ (z : ℤ). rnd z f.divisor) (weighed_alone f.factors 0 n one)
      ∙ ap₂ (λ k (d : ℤ). rnd (unit n *ℤ pos k) d) (sym exact.whole) exact.positive
      ∙ ap (λ (z : ℤ). rnd z (pos (unsigned_abs f.divisor))) (grouped (times_of f) (unsigned_abs f.divisor) (unit n))
      ∙ rnd_whole (pos (times_of f) *ℤ unit n) (unsigned_abs f.divisor) (some_factors _ _ exact.whole).1

  weighted_is : (frame : ℕ → ℤ) (n : ℕ) → weighted weight frame n ≡ pos (times_of f) *ℤ weighed f.factors 0 (first n frame)
  weighted_is frame zero = sym (ap (λ (z : ℤ). pos (times_of f) *ℤ z) (weighed_none f.factors 0 frame) ∙ *ℤ-zero (pos (times_of f)))
  weighted_is frame (suc n) =
      let before = weighted_is frame n in
      let here = ap (λ (z : ℤ). z *ℤ frame n) (weight_is n) ∙ times_times (times_of f) (unit n) (frame n) in
      let e = sum_times (pos (times_of f)) (weighed f.factors 0 (first n frame)) (unit n *ℤ frame n) in
      ap₂ (λ (y z : ℤ). y +ℤ z) before here ∙ sym e
      ∙ ap (λ (z : ℤ). pos (times_of f) *ℤ z) (sym (weighed_more f.factors 0 n frame ∙ ap (λ (z : ℤ). weighed f.factors 0 (first n frame) +ℤ z) (weighed_alone f.factors 0 n (frame n))))

  pub mix_by_weights : (frame : ℕ → ℤ) → rnd (weighted weight frame from) one ≡ mix interp from to frame c
  unfolding mix
  mix_by_weights frame =
      let exact = form_exact interp from to c in
      ap (λ (z : ℤ). rnd z one) (weighted_is frame from)
      ∙ ap (λ k. rnd (pos (times_of f) *ℤ weighed f.factors 0 (first from frame)) (pos k)) (sym exact.whole)
      ∙ rnd_scaled (times_of f) (unsigned_abs f.divisor) (weighed f.factors 0 (first from frame)) (some_factors _ _ exact.whole).0
      ∙ ap (λ (d : ℤ). rnd (weighed f.factors 0 (first from frame)) d) (sym exact.positive)
      ∙ mix_reads interp from to (first from frame) frame c (λ k l. let t : nat_lt k from ≡ true = grind (arith, nat_tests) in ap (λ b. if b then frame k else pos 0) t)
