-- Positions that are taken back into a loop.
use Rattle.std.proofs.Common.{ℕ, ◌≡◌, ◌+◌, ◌-◌, ◌*◌, ◌%◌, ◌<◌, ◌≤◌, true, false, cond, ap, sym, ◌∙◌, arith, ◌⊎◌, inl, inr}
use Rattle.std.specs.Prelude.{nat_le}
use Rattle.std.proofs.lemmas.Bool.Decides.{nat_tests}
use Rattle.std.proofs.lemmas.Nat.{mul-mod_second}
use Rattle.std.proofs.Math.Nat.{mod-add-mod, add-mod-mod, add-mod_left, mod-eq_of_lt, mod-lt, mod_self}
use Rattle.sched_source.specs.Playback.{wrapped}
use Rattle.sched_source.specs.Drawing.{around}

pub order : (a b : ℕ) → (a ≤ b) ⊎ (b < a)
order a b = grind arith

-- one move more
pub moved_once : (p k rate : ℕ) → p + k * rate + rate ≡ p + (k + 1) * rate
moved_once p k rate = omega arith

-- ---- taken back

pub wrapped_past : (low high p : ℕ) → high ≤ p → wrapped low high p ≡ low + (p - low) % (high - low)
wrapped_past low high p l =
    let t : nat_le high p ≡ true = grind (arith, nat_tests) in
    ap (λ b. cond b (low + (p - low) % (high - low)) p) t

pub wrapped_within : (low high p : ℕ) → p < high → wrapped low high p ≡ p
wrapped_within low high p l =
    let t : nat_le high p ≡ false = grind (arith, nat_tests) in
    ap (λ b. cond b (low + (p - low) % (high - low)) p) t

-- it makes no difference whether a position is taken back before it moves on
pub wrapped_step : (low high p r : ℕ) → low < high → wrapped low high (wrapped low high p + r) ≡ wrapped low high (p + r)
wrapped_step low high p r some = elim (order high p) [
  | inr inside ↦ ap (λ q. wrapped low high (q + r)) (wrapped_within low high p inside)
  | inl past ↦
      let w = high - low in
      let x = (p - low) % w in
      let here : wrapped low high p ≡ low + x = wrapped_past low high p past in
      let sum : (x + r) % w ≡ (p - low + r) % w = mod-add-mod (p - low) w r in
      let whole : wrapped low high (p + r) ≡ low + (p - low + r) % w = wrapped_past low high (p + r) (omega arith) ∙ ap (λ k. low + k % w) (omega arith) in
      ap (λ q. wrapped low high (q + r)) here ∙ elim (order high (low + x + r)) [
        | inl again ↦ wrapped_past low high (low + x + r) again ∙ ap (λ k. low + k % w) (omega arith) ∙ ap (λ k. low + k) sum ∙ sym whole
        | inr within ↦
            let small : (x + r) % w ≡ x + r = mod-eq_of_lt (omega arith) in
            let e : low + x + r ≡ low + (x + r) = omega arith in
            wrapped_within low high (low + x + r) within ∙ e ∙ ap (λ k. low + k) (sym small ∙ sum) ∙ sym whole
      ]
]

pub wrapped_inside : (low high p : ℕ) → low < high → wrapped low high p < high
wrapped_inside low high p some = elim (order high p) [
  | inr inside ↦ let e = wrapped_within low high p inside in omega (arith, e, inside)
  | inl past ↦
      let e = wrapped_past low high p past in
      let some_left : 0 < high - low = omega arith in
      let r = mod-lt (p - low) some_left in
      omega (arith, e, r)
]

pub wrapped_from : (low high p : ℕ) → high ≤ p → low ≤ wrapped low high p
wrapped_from low high p past = let e = wrapped_past low high p past in omega (arith, e)

-- ---- around

-- a jump by whole rounds and a rest is one by the rest
reduced : (w x k r : ℕ) → (x + k * r) % w ≡ (x + k * (r % w)) % w
reduced w x k r =
    let product : (k * (r % w)) % w ≡ (k * r) % w = mul-mod_second k r w in
    sym (add-mod-mod x (k * r) w) ∙ ap (λ z. (x + z) % w) (sym product) ∙ add-mod-mod x (k * (r % w)) w

pub wrapped_around : (low high q r k : ℕ) → low ≤ q → q < high → wrapped low high (q + k * r) ≡ around low high q (r % (high - low)) k
wrapped_around low high q r k from to =
    let w = high - low in
    let rest : (q - low + k * r) % w ≡ (q - low + k * (r % w)) % w = reduced w (q - low) k r in
    elim (order high (q + k * r)) [
      | inl past ↦
          let e : q + k * r - low ≡ q - low + k * r = omega arith in
          wrapped_past low high (q + k * r) past ∙ ap (λ z. low + z % w) e ∙ ap (λ z. low + z) rest
      | inr within ↦
          let small : (q - low + k * r) % w ≡ q - low + k * r = mod-eq_of_lt (omega arith) in
          let e : q + k * r ≡ low + (q - low + k * r) = omega arith in
          wrapped_within low high (q + k * r) within ∙ e ∙ ap (λ z. low + z) (sym small ∙ rest)
    ]

pub around_within : (start end p jump k : ℕ) → start < end → around start end p jump k < end
around_within start end p jump k some =
    let some_left : 0 < end - start = omega arith in
    let r = mod-lt (p - start + k * jump) some_left in
    omega (arith, r)

pub around_none : (start end p jump : ℕ) → start ≤ p → p < end → around start end p jump 0 ≡ p
around_none start end p jump low high =
    let none : p - start + 0 * jump ≡ p - start = omega arith in
    let small : (p - start) % (end - start) ≡ p - start = mod-eq_of_lt (omega arith) in
    ap (λ z. start + z % (end - start)) none ∙ ap (λ z. start + z) small ∙ omega arith

pub moved_within : (start end p jump : ℕ) → start ≤ p → p + jump < end → p + jump ≡ around start end p jump 1
moved_within start end p jump low high =
    let once : p - start + 1 * jump ≡ p - start + jump = omega arith in
    let small : (p - start + jump) % (end - start) ≡ p - start + jump = mod-eq_of_lt (omega arith) in
    let e : p + jump ≡ start + (p - start + jump) = omega arith in
    e ∙ ap (λ z. start + z) (sym small ∙ ap (λ z. z % (end - start)) (sym once))

pub moved_past : (start end p jump : ℕ) → start ≤ p → p < end → jump < end - start → end ≤ p + jump → p + jump - (end - start) ≡ around start end p jump 1
moved_past start end p jump low high short past =
    let w = end - start in
    let once : p - start + 1 * jump ≡ w + (p + jump - end) = omega arith in
    let small : (p + jump - end) % w ≡ p + jump - end = mod-eq_of_lt (omega arith) in
    let e : p + jump - w ≡ start + (p + jump - end) = omega arith in
    e ∙ ap (λ z. start + z) (sym small ∙ sym (add-mod_left w (p + jump - end)) ∙ ap (λ z. z % w) (sym once))

-- a frame further on
pub around_next : (start end p jump k q : ℕ) → q ≡ around start end p jump k → around start end q jump 1 ≡ around start end p jump (k + 1)
around_next start end p jump k q here =
    let w = end - start in
    let y = p - start + k * jump in
    let e : q - start + 1 * jump ≡ y % w + jump = omega (arith, here) in
    let next : y + jump ≡ p - start + (k + 1) * jump = omega arith in
    ap (λ z. start + z % w) e ∙ ap (λ z. start + z) (mod-add-mod y w jump) ∙ ap (λ z. start + z % w) next

-- where it moves by one: it goes on until the end, and then it is at the start
pub around_on : (start end p k q i : ℕ) → q ≡ around start end p 1 k → q + i < end → around start end p 1 (k + i) ≡ q + i
around_on start end p k q i here within =
    let w = end - start in
    let y = p - start + k * 1 in
    let e : p - start + (k + i) * 1 ≡ y + i = omega arith in
    let small : (y % w + i) % w ≡ y % w + i = mod-eq_of_lt (omega (arith, here)) in
    let there : start + (y % w + i) ≡ q + i = omega (arith, here) in
    ap (λ z. start + z % w) e ∙ ap (λ z. start + z) (sym (mod-add-mod y w i) ∙ small) ∙ there

pub around_end : (start end p k q : ℕ) → q ≡ around start end p 1 k → q < end → around start end p 1 (k + (end - q)) ≡ start
around_end start end p k q here within =
    let w = end - start in
    let y = p - start + k * 1 in
    let i = end - q in
    let e : p - start + (k + i) * 1 ≡ y + i = omega arith in
    let whole : y % w + i ≡ w = omega (arith, here) in
    let none : start + 0 ≡ start = omega arith in
    ap (λ z. start + z % w) e ∙ ap (λ z. start + z) (sym (mod-add-mod y w i) ∙ ap (λ z. z % w) whole ∙ mod_self w) ∙ none
