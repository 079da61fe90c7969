-- The parts of a convolver, lent for a block, and what becomes of them.
use Rattle.std.proofs.Common.{◌≡◌, ◌<◌, ◌+◌, ◌-◌, ◌*◌, ℕ, zero, suc, ℤ, pos, List, [], ◌∷◌, ◌++◌, length, replicate, get_or, ap, subst, sym, refl, ◌∙◌, arith, inl, inr}
use Rattle.std.proofs.lemmas.Bool.{cases_lt}
use Rattle.std.proofs.lemmas.List.{get_or_append_left, get_or-append_right, get_or-replicate, length-append, length-replicate}
use Rattle.node_table.specs.Frames.{item, heard}
use Rattle.node_table.specs.Convolutions.{convolution}
use Rattle.convolve.specs.Convolver.{ConvolverView, ConvolverStands}
use Rattle.convolve.specs.Lines.{Recalls, AreLong, silence}
use Rattle.convolve.proofs.Hearing.{HaveHeard, block_stands}

-- what is lent is what the convolver has
pub record IsLent (s : ConvolverView) (response lent_response : List ℤ) (old lent : List (List ℤ)) : Type 0 where
  pub view : record { response = response; channels = old } ≡ s
  pub samples : lent_response ≡ response
  pub channels : lent ≡ old

abbrev WritesOutputs : (response : List ℤ) (old : List (List ℤ)) (x y : List ℤ) (frames : ℕ) → Type 0
WritesOutputs response old x y frames =
    (c k : ℕ) (other xs : List ℤ) → c < length old → k < frames → Recalls (get_or old c other) xs → item y (c * frames + k) ≡ convolution response (heard x (c * frames) (k + 1) xs)

count_is : (s : ConvolverView) (r lr : List ℤ) (old lent : List (List ℤ)) → IsLent s r lr old lent → length s.channels ≡ length old
count_is s r lr old lent is = sym (ap (λ (v : ConvolverView). length v.channels) is.view)

-- ---- a block

pub convolver_stands : (s : ConvolverView) (r lr : List ℤ) (old lent now : List (List ℤ)) (x : List ℤ) (frames : ℕ) → IsLent s r lr old lent
    → length x ≡ length s.channels * frames → length now ≡ length old → HaveHeard lent now x frames
    → (c : ℕ) (xs : List ℤ) → ConvolverStands s c xs → Recalls (get_or now c (silence (length r))) (heard x (c * frames) frames xs)
convolver_stands s r lr old lent now x frames is long same have c xs stands =
    let all = subst (λ (v : List (List ℤ)). HaveHeard v now x frames) is.channels have in
    let before : ConvolverStands (record { response = r; channels = old }) c xs = subst (λ (v : ConvolverView). ConvolverStands v c xs) (sym is.view) stands in
    block_stands (length r) old now x frames (long ∙ ap (λ n. n * frames) (count_is s r lr old lent is)) same all c xs before

pub convolver_output : (s : ConvolverView) (r lr : List ℤ) (old lent : List (List ℤ)) (x y : List ℤ) (frames : ℕ) → IsLent s r lr old lent → WritesOutputs lr lent x y frames
    → (c k : ℕ) (xs : List ℤ) → c < length s.channels → k < frames → ConvolverStands s c xs → item y (c * frames + k) ≡ convolution s.response (heard x (c * frames) (k + 1) xs)
convolver_output s r lr old lent x y frames is written c k xs there lt stands =
    let w_r = subst (λ v. WritesOutputs v lent x y frames) is.samples written in
    let w = subst (λ (v : List (List ℤ)). WritesOutputs r v x y frames) is.channels w_r in
    let before : ConvolverStands (record { response = r; channels = old }) c xs = subst (λ (v : ConvolverView). ConvolverStands v c xs) (sym is.view) stands in
    let count = count_is s r lr old lent is in
    w c k (silence (length r)) xs (omega arith) lt before
    ∙ ap (λ (v : ConvolverView). convolution v.response (heard x (c * frames) (k + 1) xs)) is.view

pub long_after : (old lent now : List (List ℤ)) (x : List ℤ) (frames n : ℕ) → lent ≡ old → length now ≡ length old → HaveHeard lent now x frames → AreLong old n → AreLong now n
long_after old lent now x frames n is same have long c other there =
    let all = subst (λ (v : List (List ℤ)). HaveHeard v now x frames) is have in
    (all c other (omega arith)).long ∙ long c other (omega arith)

-- ---- one frame is a block of one

pub step_stands : (s : ConvolverView) (r lr : List ℤ) (old lent now : List (List ℤ)) (x : List ℤ) → IsLent s r lr old lent
    → length x ≡ length s.channels → length now ≡ length old → HaveHeard lent now x 1
    → (c : ℕ) (xs : List ℤ) → ConvolverStands s c xs → Recalls (get_or now c (silence (length r))) (item x c ∷ xs)
step_stands s r lr old lent now x is long same have c xs stands =
    let place : c * 1 + 0 ≡ c = omega arith in
    subst (λ p. Recalls (get_or now c (silence (length r))) (item x p ∷ xs)) place
    (convolver_stands s r lr old lent now x 1 is (omega arith) same have c xs stands)

pub step_output : (s : ConvolverView) (r lr : List ℤ) (old lent : List (List ℤ)) (x y : List ℤ) → IsLent s r lr old lent → WritesOutputs lr lent x y 1
    → (c : ℕ) (xs : List ℤ) → c < length s.channels → ConvolverStands s c xs → item y c ≡ convolution s.response (item x c ∷ xs)
step_output s r lr old lent x y is written c xs there stands =
    let place : c * 1 + 0 ≡ c = omega arith in
    subst (λ p. item y p ≡ convolution s.response (item x p ∷ xs)) place
    (convolver_output s r lr old lent x y 1 is written c 0 xs there (omega arith) stands)

-- ---- silent channels are added

silent_item : (more c : ℕ) (other : List ℤ) → get_or (replicate more other) c other ≡ other
silent_item zero c other = refl
silent_item (suc more) zero other = refl
silent_item (suc more) (suc c) other = silent_item more c other

grown_item : (old : List (List ℤ)) (more c : ℕ) (other : List ℤ) → get_or (old ++ replicate more other) c other ≡ get_or old c other
grown_item [] more c other = silent_item more c other
grown_item (xs ∷ old) more zero other = refl
grown_item (xs ∷ old) more (suc c) other = grown_item old more c other

pub kept_grown : (old now : List (List ℤ)) (more kept n c : ℕ) → kept ≡ n → now ≡ old ++ replicate more (silence kept) → get_or now c (silence n) ≡ get_or old c (silence n)
kept_grown old now more kept n c same is =
    ap (λ (v : List (List ℤ)). get_or v c (silence n)) (is ∙ ap (λ k. old ++ replicate more (silence k)) same) ∙ grown_item old more c (silence n)

pub long_grown : (old now : List (List ℤ)) (more kept n : ℕ) → kept ≡ n → now ≡ old ++ replicate more (silence kept) → AreLong old n → AreLong now n
long_grown old now more kept n same is long c other there =
    let r = length-replicate more (silence kept) in
    let a = length-append old (replicate more (silence kept)) in
    let e = ap length is in
    let l = length-replicate kept (pos 0) in
    ap (λ (v : List (List ℤ)). length (get_or v c other)) is
    ∙ elim (cases_lt c (length old)) [
      | inl before ↦ ap length (get_or_append_left old (replicate more (silence kept)) other c before) ∙ long c other before
      | inr past ↦
          ap length (get_or-append_right old (replicate more (silence kept)) (length old) c other refl past
          ∙ get_or-replicate more (c - length old) (silence kept) other (omega (arith, r, a, e))) ∙ l ∙ same
    ]
