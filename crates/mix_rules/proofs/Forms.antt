-- The sum of a linear form, and what a form of one channel gives.
use Rattle.std.proofs.Common.{◌≡◌, ◌<◌, ◌≤◌, ◌+◌, ◌/◌, ℕ, zero, suc, ℤ, pos, negsuc, ◌+ℤ◌, ◌*ℤ◌, List, [], ◌∷◌, map, refl, sym, ap, ap₂, ◌∙◌, arith, inl, inr, nat_eq, cond}
use Rattle.std.specs.Int.{int_div_euclid}
use Rattle.std.specs.List.{range_with_len}
use Rattle.std.proofs.lemmas.Bool.Decides.{eqb_tells}
use Rattle.std.proofs.lemmas.Int.{ints}
use Rattle.std.proofs.Math.IntN.{pred_ℤ, suc_ℤ-*ℤ, pred_ℤ-*ℤ, suc_ℤ-+ℤ, pred_ℤ-+ℤ, +ℤ_idl, zero-*ℤ, *ℤ-zero, *ℤ_comm}
use Rattle.wa_base.specs.Numbers.{rnd}
use Rattle.mix_rules.specs.Mixing.{◌⊕◌, ◌⊙◌, channel, only, one, form, weighed, applied}

rnd_by_one : (z : ℤ) → rnd z (pos 1) ≡ z
rnd_by_one (pos n) = omega (arith, ints)
rnd_by_one (negsuc n) =
    let doubled : pos 2 *ℤ negsuc n +ℤ pos 1 ≡ negsuc (n + n) = omega (arith, ints) in
    let halved : (n + n) / 2 ≡ n = omega arith in
    ap (λ (v : ℤ). int_div_euclid v (pos 2)) doubled ∙ ap negsuc halved

-- a product with a sum is the sum of the products
times_sum : (f g x : ℤ) → (f +ℤ g) *ℤ x ≡ f *ℤ x +ℤ g *ℤ x
times_sum (pos zero) g x = rw (+ℤ_idl g, zero-*ℤ x, +ℤ_idl (g *ℤ x)) refl
times_sum (pos (suc n)) g x =
    let before = times_sum (pos n) g x in
    let right = suc_ℤ-*ℤ (pos n) x in
    ap (λ (z : ℤ). z *ℤ x) (suc_ℤ-+ℤ (pos n) g) ∙ suc_ℤ-*ℤ (pos n +ℤ g) x ∙ omega (arith, ints, before, right)
times_sum (negsuc zero) g x =
    let right = pred_ℤ-*ℤ (pos zero) x in
    let none = zero-*ℤ x in
    ap (λ (z : ℤ). z *ℤ x) (pred_ℤ-+ℤ (pos zero) g) ∙ ap (λ (z : ℤ). pred_ℤ z *ℤ x) (+ℤ_idl g) ∙ pred_ℤ-*ℤ g x ∙ omega (arith, ints, right, none)
times_sum (negsuc (suc n)) g x =
    let before = times_sum (negsuc n) g x in
    let right = pred_ℤ-*ℤ (negsuc n) x in
    ap (λ (z : ℤ). z *ℤ x) (pred_ℤ-+ℤ (negsuc n) g) ∙ pred_ℤ-*ℤ (negsuc n +ℤ g) x ∙ omega (arith, ints, before, right)

-- a factor's product with a sum
sum_times : (k x y : ℤ) → k *ℤ (x +ℤ y) ≡ k *ℤ x +ℤ k *ℤ y
sum_times k x y = *ℤ_comm k (x +ℤ y) ∙ times_sum x y k ∙ ap₂ (λ (v w : ℤ). v +ℤ w) (*ℤ_comm x k) (*ℤ_comm y k)

times_times : (k : ℕ) (f x : ℤ) → (pos k *ℤ f) *ℤ x ≡ pos k *ℤ (f *ℤ x)
times_times zero f x = rw (zero-*ℤ f, zero-*ℤ x, zero-*ℤ (f *ℤ x)) refl
times_times (suc k) f x =
    ap (λ (z : ℤ). z *ℤ x) (suc_ℤ-*ℤ (pos k) f) ∙ times_sum (pos k *ℤ f) f x
    ∙ ap (λ (z : ℤ). z +ℤ f *ℤ x) (times_times k f x) ∙ sym (suc_ℤ-*ℤ (pos k) (f *ℤ x))

pub weighed_of_times : (k : ℕ) (fs : List ℤ) (i : ℕ) (frame : ℕ → ℤ) → weighed (pos k ⊙ fs) i frame ≡ pos k *ℤ weighed fs i frame
weighed_of_times k [] i frame = sym (*ℤ-zero (pos k))
weighed_of_times k (f ∷ fs) i frame =
    ap₂ (λ (x y : ℤ). x +ℤ y) (times_times k f (frame i)) (weighed_of_times k fs (i + 1) frame)
    ∙ sym (sum_times (pos k) (f *ℤ frame i) (weighed fs (i + 1) frame))

pub weighed_of_sum : (fs gs : List ℤ) (i : ℕ) (frame : ℕ → ℤ) → weighed (fs ⊕ gs) i frame ≡ weighed fs i frame +ℤ weighed gs i frame
weighed_of_sum [] gs i frame = omega (arith, ints)
weighed_of_sum (f ∷ fs) [] i frame = omega (arith, ints)
weighed_of_sum (f ∷ fs) (g ∷ gs) i frame =
    let here = times_sum f g (frame i) in
    let rest = weighed_of_sum fs gs (i + 1) frame in
    omega (arith, ints, here, rest)

-- the factors of channel i among n channels from `first` on
one_of : ℕ → ℕ → ℕ → List ℤ
one_of i first n = map (λ c. cond (nat_eq c i) (pos 1) (pos 0)) (range_with_len first n)

weighed_before : (i first n : ℕ) (frame : ℕ → ℤ) → i < first → weighed (one_of i first n) first frame ≡ pos 0
unfolding one_of
weighed_before i first zero frame before = refl
weighed_before i first (suc n) frame before = elim (eqb_tells first i) [
  | inl same ↦ absurd (let e = same.1 in omega arith)
  | inr other ↦ rw (other.0) (let rest = weighed_before i (first + 1) n frame (omega arith) in omega (arith, ints, rest))
]

weighed_among : (i first n : ℕ) (frame : ℕ → ℤ) → first ≤ i → i < first + n → weighed (one_of i first n) first frame ≡ frame i
unfolding one_of
weighed_among i first zero frame low high = absurd (omega arith)
weighed_among i first (suc n) frame low high = elim (eqb_tells first i) [
  | inl same ↦ rw (same.0) (
      let here = ap frame same.1 in
      let rest = weighed_before i (first + 1) n frame (let e = same.1 in omega arith) in
      omega (arith, ints, here, rest)
      )
  | inr other ↦ rw (other.0) (
      let apart = other.1 in
      let rest = weighed_among i (first + 1) n frame (omega arith) (omega arith) in
      omega (arith, ints, rest)
      )
]

-- the sum of channel i alone
pub weighed_channel : (from i : ℕ) (frame : ℕ → ℤ) → i < from → weighed (channel from i) 0 frame ≡ frame i
unfolding one_of
weighed_channel from i frame there = weighed_among i 0 from frame (omega arith) (omega arith)

pub applied_channel : (from i : ℕ) (frame : ℕ → ℤ) → i < from → applied (only (channel from i)) frame ≡ frame i
applied_channel from i frame there = ap (λ (z : ℤ). rnd z (pos 1)) (weighed_channel from i frame there) ∙ rnd_by_one (frame i)
