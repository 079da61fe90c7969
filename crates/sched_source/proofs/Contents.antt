-- A content that is drawn straight on until the loop's end, and then around the loop.
use Rattle.std.proofs.Common.{ℕ, ◌≡◌, ◌+◌, ◌-◌, ◌*◌, ◌%◌, ◌<◌, ◌≤◌, min, true, ap, sym, subst, ◌∙◌, arith}
use Rattle.std.specs.Int.{div_ceil}
use Rattle.sched_source.specs.declared.content.Content.{Content}
use Rattle.sched_source.specs.Playback.{loop_start, loop_end, is_looping, position, IsPlayable}
use Rattle.sched_source.specs.Drawing.{around}
use Rattle.sched_source.proofs.Positions.{frames_inside, frames_past, before_end, past_end, goes_around}

-- a position, the loop's end, and the frame before which that end is reached
pub record Straight (content : Content) (n p end from to stop : ℕ) : Type 0 where
  pub playable : IsPlayable content
  pub looping : is_looping content ≡ true
  pub here : p ≡ position content n
  pub there : end ≡ loop_end content
  pub stops : stop ≡ from + min (div_ceil (end - p) content.rate) (to - from)

pub straight_within : (content : Content) (n p end from to stop m : ℕ) → Straight content n p end from to stop → from ≤ m → m < stop → p + (m - from) * content.rate < end
straight_within content n p end from to stop m s low high =
    let stops = s.stops in
    let few : m - from < div_ceil (end - p) content.rate = omega arith in
    let inside = frames_inside (end - p) content.rate (m - from) s.playable.rate few in
    omega (arith, inside)

pub straight_value : (content : Content) (n p end from to stop m : ℕ) → Straight content n p end from to stop → from ≤ m → m < stop
    → p + (m - from) * content.rate ≡ position content (n + (m - from))
straight_value content n p end from to stop m s low high =
    let k = m - from in
    let within = straight_within content n p end from to stop m s low high in
    let moved : p + k * content.rate ≡ position content n + k * content.rate = ap (λ q. q + k * content.rate) s.here in
    let below : position content n + k * content.rate < loop_end content = omega (arith, within, moved, s.there) in
    moved ∙ sym (before_end content n k s.looping below)

pub turns : (content : Content) (n p end from to stop : ℕ) → Straight content n p end from to stop → stop < to → loop_start content ≤ position content (n + (stop - from))
turns content n p end from to stop s short =
    let stops = s.stops in
    let count : stop - from ≡ div_ceil (end - p) content.rate = omega arith in
    let past : end - p ≤ (stop - from) * content.rate = subst (λ k. end - p ≤ k * content.rate) (sym count) (frames_past (end - p) content.rate s.playable.rate) in
    past_end content n (stop - from) s.looping (omega (arith, past, s.here, s.there))

pub around_value : (content : Content) (n from stop m q start end : ℕ) → is_looping content ≡ true → q ≡ position content (n + (stop - from)) → start ≡ loop_start content → end ≡ loop_end content
    → loop_start content ≤ position content (n + (stop - from)) → from ≤ stop → stop ≤ m
    → around start end q (content.rate % (end - start)) (m - stop) ≡ position content (n + (m - from))
around_value content n from stop m q start end looping here begin ends within low high =
    let e : n + (stop - from) + (m - stop) ≡ n + (m - from) = omega arith in
    ap (λ s. around s end q (content.rate % (end - s)) (m - stop)) begin
    ∙ ap (λ t. around (loop_start content) t q (content.rate % (t - loop_start content)) (m - stop)) ends
    ∙ ap (λ p. around (loop_start content) (loop_end content) p (content.rate % (loop_end content - loop_start content)) (m - stop)) here
    ∙ sym (goes_around content (n + (stop - from)) (m - stop) looping within) ∙ ap (position content) e
