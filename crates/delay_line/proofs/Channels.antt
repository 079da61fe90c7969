-- A part of one channel of a block that is written over.
use Rattle.std.proofs.Common.{ℕ, ℤ, ◌≡◌, ◌+◌, ◌-◌, ◌*◌, ◌<◌, ◌≤◌, List, length, take, drop, get_or, ap, sym, ◌∙◌, arith, inl, inr}
use Rattle.std.proofs.lemmas.List.{get_or-take, get_or-drop}
use Rattle.std.proofs.lemmas.Nat.{mul-le}
use borrow.Rule.Slice.PartMut.{put_mid}
use Rattle.lane_kern.specs.Blocks.{at}
use Rattle.mix_rules.specs.Blocks.{sample}
use Rattle.lane_kern.proofs.Written.{written_before, written_here, written_after}
use Rattle.delay_line.specs.Spans.{delay_at}
use Rattle.delay_line.proofs.Ends.{order}

module _ (frames c start end : ℕ) (old part : List ℤ) where
  abbrev size : ℕ
  size = c * frames + end - (c * frames + start)

  abbrev pub put : List ℤ
  put = put_mid (c * frames + start) size old part

  pub put_here : (k : ℕ) → start ≤ k → k < end → length part ≡ end - start → c * frames + start ≤ length old → sample frames put c k ≡ at part (k - start)
  put_here k low high long there =
      let place : c * frames + start + (k - start) ≡ c * frames + k = omega (arith, low) in
      let inside : k - start < length part = omega (arith, long) in
      ap (λ i. at put i) (sym place) ∙ written_here (c * frames + start) size old part (k - start) inside there

  -- an earlier channel
  pub put_below : (b k : ℕ) → b < c → k < frames → c * frames + start ≤ length old → sample frames put b k ≡ sample frames old b k
  put_below b k less within there =
      let more : b + 1 ≤ c = omega (arith, less) in
      let next : (b + 1) * frames ≤ c * frames = mul-le _ _ _ _ more (omega arith) in
      let before : b * frames + k < c * frames + start = omega (arith, next, within) in
      written_before (c * frames + start) size old part (b * frames + k) before there

  -- an earlier frame of any channel
  pub put_before : (b k : ℕ) → k < start → start ≤ end → end ≤ frames → length part ≡ end - start → c * frames + start ≤ length old → sample frames put b k ≡ sample frames old b k
  put_before b k early some within long there = elim (order (c + 1) b) [
    | inl above ↦
        let next : (c + 1) * frames ≤ b * frames = mul-le _ _ _ _ above (omega arith) in
        let same : length part ≡ size = omega (arith, long, some) in
        let after : c * frames + start + size ≤ b * frames + k = omega (arith, next, within, some) in
        written_after (c * frames + start) size old part (b * frames + k) same after there
    | inr low ↦
        let most : b * frames ≤ c * frames = mul-le _ _ _ _ (omega (arith, low)) (omega arith) in
        written_before (c * frames + start) size old part (b * frames + k) (omega (arith, most, early)) there
  ]

-- the delay of a frame, in a part of the delays
pub part_delay : (start end : ℕ) (delays : List ℕ) (k : ℕ) → start ≤ k → k < end → delay_at (take (end - start) (drop start delays)) (k - start) ≡ delay_at delays k
part_delay start end delays k low high =
    let few : k - start < end - start = omega (arith, low, high) in
    let place : start + (k - start) ≡ k = omega (arith, low) in
    get_or-take (end - start) (drop start delays) (k - start) 0 few ∙ get_or-drop start delays (k - start) 0 ∙ ap (λ i. get_or delays i 0) place
