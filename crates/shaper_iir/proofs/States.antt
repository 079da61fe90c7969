-- States that have heard a block.
use Rattle.std.proofs.Common.{◌≡◌, ◌<◌, ◌≤◌, ◌+◌, ◌*◌, ℕ, ℤ, pos, List, ◌∷◌, length, get_or, ap, subst, sym, ◌∙◌, arith, inl, inr}
use Rattle.std.proofs.lemmas.Bool.{cases_lt}
use Rattle.std.proofs.lemmas.List.{get_or_past}
use Rattle.std.proofs.lemmas.Nat.{mul-le}
use Rattle.node_table.specs.Filters.{IsFilter, filter_value}
use Rattle.node_table.specs.Frames.{item, newest, heard}
use Rattle.shaper_iir.specs.declared.histories.History.{History}
use Rattle.shaper_iir.specs.Filter.{Filter, FilterStands}
use Rattle.shaper_iir.specs.Histories.{StandsFor, after, silent}
use Rattle.shaper_iir.proofs.Recalling.{after_stands, newest_is, silent_block_stands}

-- each channel that there is room for has heard its part of a block
abbrev pub HasHeard : (forward back : List ℤ) (old now : List History) (x : List ℤ) (frames : ℕ) → Type 0
HasHeard forward back old now x frames =
    (c : ℕ) → c < length old → get_or now c silent ≡ after forward back (get_or old c silent) x (c * frames) frames

past_block : (c count frames k : ℕ) → count ≤ c → count * frames ≤ c * frames + k
past_block c count frames k l = let all = mul-le count frames c frames l (omega arith) in omega arith

pub block_stands : (forward back : List ℤ) (old now : List History) (x : List ℤ) (frames : ℕ) → IsFilter forward back
    → length x ≡ length old * frames → length now ≡ length old → HasHeard forward back old now x frames
    → (c : ℕ) (xs : List ℤ) → StandsFor forward back (get_or old c silent) xs
    → StandsFor forward back (get_or now c silent) (heard x (c * frames) frames xs)
block_stands forward back old now x frames filter long same have c xs stands = elim (cases_lt c (length old)) [
  | inl there ↦
      subst (λ (h : History). StandsFor forward back h (heard x (c * frames) frames xs)) (sym (have c there))
      (after_stands forward back (get_or old c silent) x (c * frames) frames xs filter stands)
  | inr past ↦
      let before : get_or old c silent ≡ silent = get_or_past old c silent (omega arith) in
      let later : get_or now c silent ≡ silent = get_or_past now c silent (omega arith) in
      subst (λ (h : History). StandsFor forward back h (heard x (c * frames) frames xs)) (sym later)
      (silent_block_stands forward back x (c * frames) frames xs filter
      (λ k. get_or_past x (c * frames + k) (pos 0) (let p = past_block c (length old) frames k (omega arith) in omega (arith, long)))
      (subst (λ (h : History). StandsFor forward back h xs) before stands))
]

pub block_output : (forward back : List ℤ) (old : List History) (x y : List ℤ) (frames : ℕ) → IsFilter forward back
    → ((c k : ℕ) → c < length old → k < frames → item y (c * frames + k) ≡ newest (after forward back (get_or old c silent) x (c * frames) (k + 1)).outputs)
    → (c k : ℕ) (xs : List ℤ) → c < length old → k < frames → StandsFor forward back (get_or old c silent) xs
    → item y (c * frames + k) ≡ filter_value forward back (heard x (c * frames) (k + 1) xs)
block_output forward back old x y frames filter outputs c k xs there lt stands =
    outputs c k there lt
    ∙ newest_is forward back (after forward back (get_or old c silent) x (c * frames) (k + 1)) (heard x (c * frames) (k + 1) xs)
    (after_stands forward back (get_or old c silent) x (c * frames) (k + 1) xs filter stands)

-- ---- the same of a filter, whose parts are lent

-- what is lent is what the filter has
pub record IsLent (s : Filter) (f b lf lb : List ℤ) (old lent : List History) : Type 0 where
  pub view : record { forward = f; back = b; channels = old } ≡ s
  pub forward : lf ≡ f
  pub back : lb ≡ b
  pub channels : lent ≡ old

abbrev WritesOutputs : (forward back : List ℤ) (old : List History) (x y : List ℤ) (frames : ℕ) → Type 0
WritesOutputs forward back old x y frames =
    (c k : ℕ) → c < length old → k < frames → item y (c * frames + k) ≡ newest (after forward back (get_or old c silent) x (c * frames) (k + 1)).outputs

count_is : (s : Filter) (f b lf lb : List ℤ) (old lent : List History) → IsLent s f b lf lb old lent → length s.channels ≡ length old
count_is s f b lf lb old lent is = sym (ap (λ (v : Filter). length v.channels) is.view)

pub filter_stands : (s : Filter) (f b lf lb : List ℤ) (old lent now : List History) (x : List ℤ) (frames : ℕ) → IsLent s f b lf lb old lent → IsFilter f b
    → length x ≡ length s.channels * frames → length now ≡ length old → HasHeard lf lb lent now x frames
    → (c : ℕ) (xs : List ℤ) → FilterStands s c xs → StandsFor f b (get_or now c silent) (heard x (c * frames) frames xs)
filter_stands s f b lf lb old lent now x frames is filter long same have c xs stands =
    let heard_f = subst (λ v. HasHeard v lb lent now x frames) is.forward have in
    let heard_b = subst (λ v. HasHeard f v lent now x frames) is.back heard_f in
    let heard_all = subst (λ (v : List History). HasHeard f b v now x frames) is.channels heard_b in
    let before : FilterStands (record { forward = f; back = b; channels = old }) c xs = subst (λ (v : Filter). FilterStands v c xs) (sym is.view) stands in
    block_stands f b old now x frames filter (long ∙ ap (λ n. n * frames) (count_is s f b lf lb old lent is)) same heard_all c xs before

pub filter_output : (s : Filter) (f b lf lb : List ℤ) (old lent : List History) (x y : List ℤ) (frames : ℕ) → IsLent s f b lf lb old lent → IsFilter f b
    → WritesOutputs lf lb lent x y frames
    → (c k : ℕ) (xs : List ℤ) → c < length s.channels → k < frames → FilterStands s c xs
    → item y (c * frames + k) ≡ filter_value s.forward s.back (heard x (c * frames) (k + 1) xs)
filter_output s f b lf lb old lent x y frames is filter written c k xs there lt stands =
    let w_f = subst (λ v. WritesOutputs v lb lent x y frames) is.forward written in
    let w_b = subst (λ v. WritesOutputs f v lent x y frames) is.back w_f in
    let w_all = subst (λ (v : List History). WritesOutputs f b v x y frames) is.channels w_b in
    let before : FilterStands (record { forward = f; back = b; channels = old }) c xs = subst (λ (v : Filter). FilterStands v c xs) (sym is.view) stands in
    let count = count_is s f b lf lb old lent is in
    block_output f b old x y frames filter w_all c k xs (omega arith) lt before
    ∙ ap (λ (v : Filter). filter_value v.forward v.back (heard x (c * frames) (k + 1) xs)) is.view

-- ---- one frame is a block of one

pub step_stands : (s : Filter) (f b lf lb : List ℤ) (old lent now : List History) (x : List ℤ) → IsLent s f b lf lb old lent → IsFilter f b
    → length x ≡ length s.channels → length now ≡ length old → HasHeard lf lb lent now x 1
    → (c : ℕ) (xs : List ℤ) → FilterStands s c xs → StandsFor f b (get_or now c silent) (item x c ∷ xs)
step_stands s f b lf lb old lent now x is filter long same have c xs stands =
    let place : c * 1 + 0 ≡ c = omega arith in
    subst (λ p. StandsFor f b (get_or now c silent) (item x p ∷ xs)) place
    (filter_stands s f b lf lb old lent now x 1 is filter (omega arith) same have c xs stands)

pub step_output : (s : Filter) (f b lf lb : List ℤ) (old lent : List History) (x y : List ℤ) → IsLent s f b lf lb old lent → IsFilter f b
    → WritesOutputs lf lb lent x y 1
    → (c : ℕ) (xs : List ℤ) → c < length s.channels → FilterStands s c xs → item y c ≡ filter_value s.forward s.back (item x c ∷ xs)
step_output s f b lf lb old lent x y is filter written c xs there stands =
    let place : c * 1 + 0 ≡ c = omega arith in
    subst (λ p. item y p ≡ filter_value s.forward s.back (item x p ∷ xs)) place
    (filter_output s f b lf lb old lent x y 1 is filter written c 0 xs there (omega arith) stands)
