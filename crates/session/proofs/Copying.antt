-- The blocks of a quantum, copied into samples that stand channel after channel.
use Rattle.std.proofs.Common.{◌≡◌, ◌<◌, ◌≤◌, ◌+◌, ◌-◌, ◌*◌, ◌/◌, ◌%◌, ◌&&◌, ◌++◌, ℕ, zero, suc, ℤ, pos, Bool, List, length, take, drop, slice_index_or, true, false, nat_lt, refl, sym, ap, ◌∙◌, inl, inr, arith, get_or-take, get_or-drop, length-take}
use Rattle.std.specs.Prelude.{nat_le, min}
use Rattle.std.proofs.lemmas.Bool.{cases_lt, cases_eq}
use Rattle.std.proofs.lemmas.Bool.Decides.{nat_tests}
use Rattle.std.proofs.lemmas.List.{get_or_append_left}
use Rattle.std.proofs.lemmas.Nat.{div-mul-add, mod-mul-add, mul-add-lt}
use Rattle.std.proofs.Math.Nat.{div-add-mod'}
use Rattle.std.proofs.Math.Seq.{get_or-append_right}
use Rattle.law_base.proofs.Rows.{next_quantum}
use borrow.Rule.Slice.PartMut.{put_mid}
use Rattle.wa_base.specs.Contexts.{quantum_of}
use Rattle.wa_base.specs.declared.contexts.ContextSpec.{ContextSpec}
use Rattle.meaning.specs.declared.world.World.{World}
use Rattle.meaning.specs.Rendered.{sample}
use Rattle.session.specs.Frames.{is_place_of, WritesBelow}

-- ---- an element of a list with a part written over

before : (a k : ℕ) (xs ys : List ℤ) (place : ℕ) → a ≤ length xs → place < a → slice_index_or (put_mid a k xs ys) place (pos 0) ≡ slice_index_or xs place (pos 0)
before a k xs ys place fits early =
    let long = length-take a xs in
    let in_front : place < length (take a xs) = omega (arith, long) in
    get_or_append_left (take a xs) _ (pos 0) place in_front ∙ get_or-take a xs place (pos 0) early

inside : (a k : ℕ) (xs ys : List ℤ) (place : ℕ) → a ≤ length xs → a ≤ place → place < a + length ys → slice_index_or (put_mid a k xs ys) place (pos 0) ≡ slice_index_or ys (place - a) (pos 0)
inside a k xs ys place fits from below =
    let long : length (take a xs) ≡ a = omega (arith, length-take a xs) in
    get_or-append_right (take a xs) _ place (pos 0) (omega (arith, long))
    ∙ ap (λ n. slice_index_or (ys ++ drop k (drop a xs)) (place - n) (pos 0)) long
    ∙ get_or_append_left ys (drop k (drop a xs)) (pos 0) (place - a) (omega arith)

past : (a k : ℕ) (xs ys : List ℤ) (place : ℕ) → a ≤ length xs → length ys ≡ k → a + k ≤ place → slice_index_or (put_mid a k xs ys) place (pos 0) ≡ slice_index_or xs place (pos 0)
past a k xs ys place fits same late =
    let long : length (take a xs) ≡ a = omega (arith, length-take a xs) in
    let at : a + (k + (place - a - length ys)) ≡ place = omega (arith, same) in
    get_or-append_right (take a xs) _ place (pos 0) (omega (arith, long))
    ∙ ap (λ n. slice_index_or (ys ++ drop k (drop a xs)) (place - n) (pos 0)) long
    ∙ get_or-append_right ys (drop k (drop a xs)) (place - a) (pos 0) (omega (arith, same))
    ∙ get_or-drop k (drop a xs) (place - a - length ys) (pos 0)
    ∙ get_or-drop a xs (k + (place - a - length ys)) (pos 0)
    ∙ ap (λ n. slice_index_or xs n (pos 0)) at

-- ---- one channel

-- a place of the block is one of the channel
of_channel : (length channel offset place : ℕ) → place ≡ channel * length + offset → offset < length → (place / length ≡ channel) × (place % length ≡ offset)
of_channel length channel offset place is within =
    (ap (λ p. p / length) is ∙ div-mul-add channel length offset within, ap (λ p. p % length) is ∙ mod-mul-add channel length offset within)

outside : (spec : ContextSpec) (first channel count place : ℕ) → count ≡ min (quantum_of spec) (spec.length - first) → first < spec.length
    → (channel * spec.length + first ≤ place → place < channel * spec.length + first + count → ⊥)
    → is_place_of spec first (first + quantum_of spec) (channel + 1) place ≡ is_place_of spec first (first + quantum_of spec) channel place
outside spec first channel count place count_is some out = elim (cases_eq (place / spec.length) channel) [
  | inl here ↦ elim (cases_lt (place % spec.length) first) [
    | inl early ↦ let fails : nat_le first (place % spec.length) ≡ false = grind (arith, nat_tests) in rw fails (both_fail (nat_lt (place / spec.length) (channel + 1)) (nat_lt (place / spec.length) channel) (nat_lt (place % spec.length) (first + quantum_of spec)))
    | inr from ↦ elim (cases_lt (place % spec.length) (first + quantum_of spec)) [
      | inl below ↦
          let whole = div-add-mod' place spec.length in
          let is : place ≡ channel * spec.length + place % spec.length = sym (rw here at whole) in
          let column : place % spec.length < spec.length = omega arith in
          absurd (out (omega (arith, is)) (omega (arith, is)))
      | inr late ↦ let fails : nat_lt (place % spec.length) (first + quantum_of spec) ≡ false = grind (arith, nat_tests) in rw fails (last_fails (nat_lt (place / spec.length) (channel + 1) && nat_le first (place % spec.length)) (nat_lt (place / spec.length) channel && nat_le first (place % spec.length)))
    ]
  ]
  | inr differs ↦ let below : nat_lt (place / spec.length) (channel + 1) ≡ nat_lt (place / spec.length) channel = grind (arith, nat_tests) in rw below refl
]
  where
    last_fails : (a b : Bool) → (a && false) ≡ (b && false)
    last_fails true true = refl
    last_fails true false = refl
    last_fails false true = refl
    last_fails false false = refl

    both_fail : (a b c : Bool) → (a && false && c) ≡ (b && false && c)
    both_fail true true c = refl
    both_fail true false c = refl
    both_fail false true c = refl
    both_fail false false c = refl

-- one channel more
pub channel_copied : (old mid block : List ℤ) (spec : ContextSpec) (tape : List World) (first channel count : ℕ) → count ≡ min (quantum_of spec) (spec.length - first) → first < spec.length → channel < spec.channels
    → length mid ≡ length old → length old ≡ spec.channels * spec.length → length block ≡ count
    → ((m : ℕ) → m < count → slice_index_or block m (pos 0) ≡ sample (quantum_of spec) tape (first + m) channel)
    → WritesBelow old mid spec tape first (first + quantum_of spec) channel
    → WritesBelow old (put_mid (channel * spec.length + first) count mid block) spec tape first (first + quantum_of spec) (channel + 1)
channel_copied old mid block spec tape first channel count count_is some in_channels same room long values below = λ place within.
    let start = channel * spec.length + first in
    let fits = mul-add-lt channel spec.length first spec.channels in_channels some in
    let starts : start ≤ length mid = omega (arith, fits) in
    elim (cases_lt place start) [
      | inl early ↦ rw (outside spec first channel count place count_is some (λ low high. omega arith)) (before start count mid block place starts early ∙ below place within)
      | inr from ↦ elim (cases_lt place (start + count)) [
        | inl here ↦
            let offset = place - channel * spec.length in
            let at = of_channel spec.length channel offset place (omega arith) (omega arith) in
            let row : nat_lt channel (channel + 1) ≡ true = grind (arith, nat_tests) in
            let low : nat_le first offset ≡ true = grind (arith, nat_tests) in
            let high : nat_lt offset (first + quantum_of spec) ≡ true = grind (arith, nat_tests) in
            let frame : first + (place - start) ≡ offset = omega arith in
            rw (at.0, at.1, row, low, high)
            (inside start count mid block place starts from (omega (arith, long)) ∙ values (place - start) (omega arith) ∙ ap (λ f. sample (quantum_of spec) tape f channel) frame)
        | inr late ↦ rw (outside spec first channel count place count_is some (λ low high. omega arith)) (past start count mid block place starts long late ∙ below place within)
      ]
    ]

-- the first frame of the last of some quanta
last_start : (q count first : ℕ) → first + q ≡ q * count → q * (count - 1) ≡ first
last_start q zero first is = omega (arith, is)
last_start q (suc n) first is =
    let whole : first + q ≡ q * (n + 1) = is ∙ ap (λ k. q * k) (let e : suc n ≡ n + 1 = omega arith in e) in
    let more = next_quantum q n in
    let before : suc n - 1 ≡ n = omega arith in
    let start : q * n ≡ first = omega (arith, whole, more) in
    ap (λ k. q * k) before ∙ start

-- the block of the tape's last quantum
pub block_values : (q : ℕ) (tape : List World) (block : List ℤ) (first channel count : ℕ) → first + q ≡ q * length tape → count ≤ q
    → ((m : ℕ) → m < q → slice_index_or block m (pos 0) ≡ sample q tape (q * (length tape - 1) + m) channel)
    → (m : ℕ) → m < count → slice_index_or (take count block) m (pos 0) ≡ sample q tape (first + m) channel
block_values q tape block first channel count first_is few values m below =
    let start : q * (length tape - 1) + m ≡ first + m = ap (λ n. n + m) (last_start q (length tape) first first_is) in
    get_or-take count block m (pos 0) below ∙ values m (omega arith) ∙ ap (λ f. sample q tape f channel) start

-- before the first channel all is as it was
pub none_copied : (samples : List ℤ) (spec : ContextSpec) (tape : List World) (first end : ℕ) → WritesBelow samples samples spec tape first end 0
none_copied samples spec tape first end = λ place within.
    let none : nat_lt (place / spec.length) 0 ≡ false = grind (arith, nat_tests) in
    rw none refl
