-- Values that are drawn one after another, and shares that rise.
use Rattle.std.proofs.Common.{ℕ, zero, suc, ℤ, pos, negsuc, ◌≡◌, ◌≢◌, ◌+◌, ◌-◌, ◌*◌, ◌/◌, ◌%◌, ◌^◌, ◌<◌, ◌≤◌, ◌+ℤ◌, ◌-ℤ◌, ◌*ℤ◌, List, length, get_or, set, get_or-set_other, get_or-set_same, ap, refl, sym, subst, ◌∙◌, arith, inl, inr, neg_ℤ, ◌≤ℤ◌, FitsSigned, true, false, cond}
use Rattle.std.specs.Prelude.{unsigned_abs, nat_lt}
use Rattle.std.specs.Int.{w32, w64, int_div_euclid}
use Rattle.std.proofs.lemmas.Bool.Decides.{nat_tests}
use Rattle.std.proofs.lemmas.Int.{ints, unsigned_abs-mul}
use Rattle.std.proofs.lemmas.Nat.{mul-le, div-mul-add}
use Rattle.param_events.specs.Values.{along, point, curve_value}
use Rattle.wa_base.specs.Numbers.{rnd}
use Rattle.param_events.specs.Lines.{IsPartOf}
use Rattle.param_events.proofs.Euclid.{in_bounds, share_part, along_fits, euclid_is}
use Rattle.param_events.proofs.Order.{order}
use Rattle.param_events.proofs.Rounding.{div-le-div}
use Rattle.param_cursor.specs.Cursors.{IsDrawn}
use Rattle.param_cursor.specs.Rising.{Rising, share_rising, numerator_on, value_on}
use borrow.Rule.Slice.PartMut.{put_mid}
use lib.ListN.{take, get_or-append}
use lib.Seq.{get_or-append-add, get_or-take, length-take-le}
use Rattle.param_cursor.proofs.Parts.{rest_is}

abbrev pub segment_value : List ℤ → ℕ → ℕ → ℕ → ℤ
segment_value points k n frames = along (point points k) (point points (k + 1)) n frames

pub drawn_more : (old now : List ℤ) (at m : ℕ) (value : ℕ → ℤ) (v : ℤ) → IsDrawn old now at m value → at ≤ m → m < length now → v ≡ value m → IsDrawn old (set now m v) at (m + 1) value
drawn_more old now at m value v h l inside e = record {
  drawn = λ k low high. elim (order m k) [
    | inl up ↦ let same : m ≡ k = omega arith in subst (λ j. get_or (set now m v) j (pos 0) ≡ value j) same (get_or-set_same now m v (pos 0) inside ∙ e)
    | inr below ↦ let other : k ≢ m = omega arith in get_or-set_other now m k v (pos 0) other ∙ h.drawn k low below
  ];
  kept = λ k low. let other : k ≢ m = omega arith in get_or-set_other now m k v (pos 0) other ∙ h.kept k low;
}

abs_below : (z : ℤ) → neg_ℤ (pos (2 ^ 33)) ≤ℤ z → z ≤ℤ pos (2 ^ 33) → unsigned_abs z ≤ 2 ^ 33
abs_below (pos n) l h = omega (arith, ints)
abs_below (negsuc n) l h = omega (arith, ints)

pub rise_small : (from to : ℤ) → FitsSigned w32 from → FitsSigned w32 to → unsigned_abs (to -ℤ from) ≤ 2 ^ 33
rise_small from to a b =
    let f = in_bounds from a in
    let t = in_bounds to b in
    abs_below (to -ℤ from) (omega (arith, ints)) (omega (arith, ints))

pub drawn_same : (old new : List ℤ) (at end : ℕ) (v w : ℕ → ℤ) → IsDrawn old new at end v → ((m : ℕ) → at ≤ m → m < end → v m ≡ w m) → IsDrawn old new at end w
drawn_same old new at end v w h e = record { drawn = λ m low high. h.drawn m low high ∙ e m low high; kept = h.kept }

pub drawn_less : (old new : List ℤ) (at stop end : ℕ) (v : ℕ → ℤ) → IsDrawn old new at stop v → end ≤ stop → IsDrawn old new at end v
drawn_less old new at stop end v h l = record { drawn = λ m low high. h.drawn m low (omega arith); kept = h.kept }

pub drawn_joined : (a b c : List ℤ) (at middle end : ℕ) (v : ℕ → ℤ) → IsDrawn a b at middle v → IsDrawn b c middle end v → at ≤ middle → IsDrawn a c at end v
drawn_joined a b c at middle end v h k l = record {
  drawn = λ m low high. elim (order middle m) [
    | inl up ↦ k.drawn m up high
    | inr below ↦ k.kept m below ∙ h.drawn m low below
  ];
  kept = λ m low. let below : m < middle = omega arith in k.kept m below ∙ h.kept m low;
}

times_sum : (x : ℤ) (n g : ℕ) → x *ℤ pos (n + g) ≡ x *ℤ pos n +ℤ x *ℤ pos g
times_sum (pos a) n g = omega (arith, ints)
times_sum (negsuc a) n g = omega (arith, ints)

-- a curve at a frame of a segment, and after the last point
pub curve_at : (points : List ℤ) (duration n k part : ℕ) → part < duration → (length points - 1) * n ≡ k * duration + part → k < length points - 1 → curve_value points duration n ≡ segment_value points k part duration
curve_at points duration n k part l e inside =
    let q : (length points - 1) * n / duration ≡ k = ap (λ p. p / duration) e ∙ div-mul-add k duration part l in
    let r : (length points - 1) * n - k * duration ≡ part = omega (arith, e) in
    let t : nat_lt k (length points - 1) ≡ true = grind (arith, nat_tests) in
    ap (λ j. cond (nat_lt j (length points - 1)) (segment_value points j ((length points - 1) * n - j * duration) duration) (get_or points (length points - 1) (pos 0))) q
    ∙ ap (λ b. cond b (segment_value points k ((length points - 1) * n - k * duration) duration) (get_or points (length points - 1) (pos 0))) t
    ∙ ap (λ p. segment_value points k p duration) r

pub curve_past : (points : List ℤ) (duration n : ℕ) → length points - 1 ≤ (length points - 1) * n / duration → curve_value points duration n ≡ get_or points (length points - 1) (pos 0)
curve_past points duration n past =
    let k = (length points - 1) * n / duration in
    let t : nat_lt k (length points - 1) ≡ false = grind (arith, nat_tests) in
    ap (λ b. cond b (segment_value points k ((length points - 1) * n - k * duration) duration) (get_or points (length points - 1) (pos 0))) t

pub past_more : (points : List ℤ) (duration n j : ℕ) → 0 < duration → length points - 1 ≤ (length points - 1) * n / duration → length points - 1 ≤ (length points - 1) * (n + j) / duration
past_more points duration n j some past =
    let more = mul-le (length points - 1) n (length points - 1) (n + j) (omega arith) (omega arith) in
    let up = div-le-div ((length points - 1) * n) ((length points - 1) * (n + j)) duration some more in
    omega (arith, past, up)

pub part_within : (duration part gain j : ℕ) → 0 < gain → part < duration → j ≤ (duration - part - 1) / gain → part + gain * j < duration
part_within duration part gain j some l h =
    let a = mul-le gain j gain ((duration - part - 1) / gain) (omega arith) h in
    let b : gain * ((duration - part - 1) / gain) ≤ duration - part - 1 = omega arith in
    omega (arith, a, b)

-- a value on a line lies between its ends
pub line_fits : (from to v : ℤ) (n parts : ℕ) → FitsSigned w32 from → FitsSigned w32 to → 0 < parts → n ≤ parts → v ≡ rnd ((to -ℤ from) *ℤ pos n) (pos parts) → FitsSigned w32 (from +ℤ v)
line_fits from to v n parts a b some within share = along_fits from to v a b (subst (IsPartOf (to -ℤ from)) (sym share) (share_part (to -ℤ from) n parts some within))

-- rounding adds half the divisor and rounds down
pub rounded_by_half : (z : ℤ) (d : ℕ) → 0 < d → int_div_euclid (z +ℤ pos (d / 2)) (pos d) ≡ rnd z (pos d)
rounded_by_half z d some =
    let q = int_div_euclid (z +ℤ pos (d / 2)) (pos d) in
    let rest = rest_is (z +ℤ pos (d / 2)) q d some refl in
    let half : 2 * (d / 2) + d % 2 ≡ d = omega arith in
    let one : d % 2 < 2 = omega arith in
    sym (euclid_is (pos 2 *ℤ z +ℤ pos d) q (2 * rest.0 + d % 2) (2 * d) (omega (arith, rest.2, one)) (omega (arith, ints, rest.1, half)))

pub share_next : (x : ℤ) (n gain parts : ℕ) → record (share_rising x n gain parts) { numerator = (share_rising x n gain parts).numerator +ℤ (share_rising x n gain parts).step } ≡ share_rising x (n + gain) gain parts
share_next x n gain parts =
    let e = times_sum x n gain in
    let f : x *ℤ pos n +ℤ pos (parts / 2) +ℤ x *ℤ pos gain ≡ x *ℤ pos (n + gain) +ℤ pos (parts / 2) = omega (arith, ints, e) in
    ap (λ z. let r : Rising = record { numerator = z; step = x *ℤ pos gain; divisor = parts } in r) f

pub gain_small : (x : ℤ) (gain parts : ℕ) → unsigned_abs x ≤ 2 ^ 33 → gain ≤ parts → unsigned_abs (x *ℤ pos gain) ≤ 2 ^ 33 * parts
gain_small x gain parts h l = rw (unsigned_abs-mul x (pos gain)) (mul-le (unsigned_abs x) gain (2 ^ 33) parts h l)

abs_more : (z : ℤ) (k d : ℕ) → unsigned_abs z ≤ k → unsigned_abs (z +ℤ pos d) ≤ k + d
abs_more (pos a) k d h = omega (arith, ints)
abs_more (negsuc a) k d h = omega (arith, ints)

pub share_small : (x : ℤ) (n gain parts : ℕ) → unsigned_abs x ≤ 2 ^ 33 → n ≤ parts → unsigned_abs (share_rising x n gain parts).numerator ≤ 2 ^ 34 * parts
share_small x n gain parts h l = let more = abs_more (x *ℤ pos n) (2 ^ 33 * parts) (parts / 2) (gain_small x n parts h l) in omega (arith, more)

pub widened : (z : ℤ) → FitsSigned w32 z → FitsSigned w64 z
widened z f = record { sfits = omega (arith, f.sfits) }

-- one value alone
pub drawn_one : (old : List ℤ) (at end : ℕ) (value : ℕ → ℤ) (v : ℤ) → at + 1 ≡ end → end ≤ length old → v ≡ value at → IsDrawn old (set old at v) at end value
drawn_one old at end value v behind inside e =
    subst (λ stop. IsDrawn old (set old at v) at stop value) behind
    (drawn_more old old at at value v (record { drawn = λ m low high. absurd (omega arith); kept = λ m low. refl }) (omega arith) (omega arith) e)

-- what a part of a list that is written over leaves before it, and has in it
before_part : (now ys : List ℤ) (m k j : ℕ) → m ≤ length now → j < m → get_or (put_mid m k now ys) j (pos 0) ≡ get_or now j (pos 0)
before_part now ys m k j there low =
    let long = length-take-le m now there in
    get_or-append (take m now) _ (pos 0) j (omega (arith, long)) ∙ get_or-take m now j (pos 0) low

in_part : (now ys : List ℤ) (m k i : ℕ) → m ≤ length now → i < length ys → get_or (put_mid m k now ys) (m + i) (pos 0) ≡ get_or ys i (pos 0)
in_part now ys m k i there low =
    let long = length-take-le m now there in
    ap (λ n. get_or (put_mid m k now ys) (n + i) (pos 0)) (sym long) ∙ get_or-append-add (take m now) _ i (pos 0) ∙ get_or-append ys _ (pos 0) i low

-- several values that are drawn at once
pub drawn_part : (old now ys : List ℤ) (at m k n : ℕ) (value : ℕ → ℤ) → IsDrawn old now at m value → at ≤ m → m + n ≤ length now → length ys ≡ n
    → ((i : ℕ) → i < n → get_or ys i (pos 0) ≡ value (m + i)) → IsDrawn old (put_mid m k now ys) at (m + n) value
drawn_part old now ys at m k n value h l inside long is = record {
  drawn = λ j low high. elim (order m j) [
    | inl up ↦
        let place : m + (j - m) ≡ j = omega arith in
        subst (λ i. get_or (put_mid m k now ys) i (pos 0) ≡ value i) place (in_part now ys m k (j - m) (omega arith) (omega (arith, long)) ∙ is (j - m) (omega arith))
    | inr below ↦ before_part now ys m k j (omega arith) below ∙ h.drawn j low below
  ];
  kept = λ j low. before_part now ys m k j (omega arith) (omega arith) ∙ h.kept j low;
}

pub numerator_more : (r : Rising) (k i : ℕ) → numerator_on r (k + i) ≡ numerator_on r k +ℤ r.step *ℤ pos i
numerator_more r k i = let e = times_sum r.step k i in omega (arith, ints, e)

times_none : (x : ℤ) → x *ℤ pos 0 ≡ pos 0
times_none (pos a) = omega (arith, ints)
times_none (negsuc a) = omega (arith, ints)

times_times : (x : ℤ) (a b : ℕ) → (x *ℤ pos a) *ℤ pos b ≡ x *ℤ pos (a * b)
times_times x a zero = let none : a * zero ≡ 0 = omega arith in times_none (x *ℤ pos a) ∙ sym (times_none x) ∙ ap (λ k. x *ℤ pos k) (sym none)
times_times x a (suc b) =
    let more : a * suc b ≡ a * b + a = omega arith in
    let one : suc b ≡ b + 1 = omega arith in
    ap (λ k. (x *ℤ pos a) *ℤ pos k) one ∙ times_sum (x *ℤ pos a) b 1 ∙ ap (λ z. z +ℤ (x *ℤ pos a) *ℤ pos 1) (times_times x a b) ∙ ap (λ z. x *ℤ pos (a * b) +ℤ z) (times_one (x *ℤ pos a))
    ∙ sym (times_sum x (a * b) a) ∙ ap (λ k. x *ℤ pos k) (sym more)
  where
    times_one : (y : ℤ) → y *ℤ pos 1 ≡ y
    times_one (pos c) = omega (arith, ints)
    times_one (negsuc c) = omega (arith, ints)

-- a share so many frames on
pub share_on : (x : ℤ) (n gain parts k : ℕ) → numerator_on (share_rising x n gain parts) k ≡ (share_rising x (n + gain * k) gain parts).numerator
share_on x n gain parts k = let e = times_times x gain k in let f = times_sum x n (gain * k) in omega (arith, ints, e, f)

-- and the value on the line there
pub line_on : (from to : ℤ) (n gain parts k : ℕ) → 0 < parts → value_on from (share_rising (to -ℤ from) n gain parts) k ≡ along from to (n + gain * k) parts
line_on from to n gain parts k some =
    ap (λ z. from +ℤ int_div_euclid z (pos parts)) (share_on (to -ℤ from) n gain parts k) ∙ ap (λ z. from +ℤ z) (rounded_by_half ((to -ℤ from) *ℤ pos (n + gain * k)) parts some)
