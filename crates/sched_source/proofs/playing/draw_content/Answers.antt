use Rattle.std.proofs.Common.{◌≡◌, ◌<◌, ◌+◌, ◌-◌, ◌*◌, min, true, false, ap, sym, subst, ◌∙◌, arith, mod-lt}
use Rattle.std.specs.Int.{div_ceil}
use Rattle.sched_source.specs.Playback.{is_looping}
use Rattle.sched_source.specs.Drawing.{at as sample, IsDrawn}
use Rattle.sched_source.proofs.Positions.{straight_on, position_inside, loop_order, frames_some}
use Rattle.sched_source.proofs.Contents.{Straight, straight_within, straight_value, turns, around_value}
use Rattle.sched_source.proofs.Draws.{drawn_same, drawn_joined}
use Rattle.sched_source.proofs.playing.draw_content.Goals as goal

pub draw_straight-requires-clause-inside : goal.draw_straight-requires-clause-inside
draw_straight-requires-clause-inside c m low high =
    let content = c.args.content.now in
    let off : is_looping content ≡ false = sym c.is_looping.ensures ∙ c.if-not-is_looping.true in
    let moved = straight_on content c.args.n (m - c.args.from) off in
    let here = ap (λ p. p + (m - c.args.from) * content.rate) c.position-at.ensures in
    omega (arith, moved, here, c.requires.inside m low high, c.requires.channel)

pub returns-then-not-is_looping : goal.returns-then-not-is_looping
returns-then-not-is_looping c =
    let content = c.args.content.now in
    let off : is_looping content ≡ false = sym c.is_looping.ensures ∙ c.if-not-is_looping.true in
    drawn_same _ _ c.args.from c.args.to _ _ c.draw_straight.ensures
    (λ m low high. ap (sample c.args.channel.now) (ap (λ p. p + (m - c.args.from) * content.rate) c.position-at.ensures ∙ sym (straight_on content c.args.n (m - c.args.from) off)))

pub frames_before-requires-clause-order : goal.frames_before-requires-clause-order
frames_before-requires-clause-order c =
    let content = c.args.content.now in
    let on : is_looping content ≡ true = sym c.is_looping.ensures ∙ c.if-not-is_looping.false in
    let inside = position_inside content c.args.n on in
    omega (arith, inside, c.position-at.ensures, c.loop_end-end.ensures.value)

pub draw_straight-requires-2-clause-ends : goal.draw_straight-requires-2-clause-ends
draw_straight-requires-2-clause-ends c =
    let content = c.args.content.now in
    let on : is_looping content ≡ true = sym c.is_looping.ensures ∙ c.if-not-is_looping.false in
    let inside = position_inside content c.args.n on in
    let order : c.position-at.result < c.loop_end-end.result = omega (arith, inside, c.position-at.ensures, c.loop_end-end.ensures.value) in
    let some = frames_some (c.loop_end-end.result - c.position-at.result) content.rate c.requires.content.rate (omega arith) in
    let count = c.frames_before.ensures in
    let least = c.min.ensures in
    (omega (arith, some, count, least, c.requires.ends), omega (arith, least, c.requires.ends))

pub draw_straight-requires-2-clause-inside : goal.draw_straight-requires-2-clause-inside
draw_straight-requires-2-clause-inside c m low high =
    let content = c.args.content.now in
    let on : is_looping content ≡ true = sym c.is_looping.ensures ∙ c.if-not-is_looping.false in
    let stop = c.args.from + c.min.result in
    let stops : stop ≡ c.args.from + min (div_ceil (c.loop_end-end.result - c.position-at.result) content.rate) (c.args.to - c.args.from) =
    ap (λ k. c.args.from + k) (c.min.ensures ∙ ap (λ k. min k (c.args.to - c.args.from)) c.frames_before.ensures) in
    let straight : Straight content c.args.n c.position-at.result c.loop_end-end.result c.args.from c.args.to stop =
    record { playable = c.requires.content; looping = on; here = c.position-at.ensures; there = c.loop_end-end.ensures.value; stops = stops } in
    let within = straight_within content c.args.n c.position-at.result c.loop_end-end.result c.args.from c.args.to stop m straight low high in
    omega (arith, within, c.loop_end-end.ensures.within, c.requires.channel)

pub returns-then-stop-to : goal.returns-then-stop-to
returns-then-stop-to c =
    let content = c.args.content.now in
    let on : is_looping content ≡ true = sym c.is_looping.ensures ∙ c.if-not-is_looping.false in
    let stop = c.args.from + c.min.result in
    let stops : stop ≡ c.args.from + min (div_ceil (c.loop_end-end.result - c.position-at.result) content.rate) (c.args.to - c.args.from) =
    ap (λ k. c.args.from + k) (c.min.ensures ∙ ap (λ k. min k (c.args.to - c.args.from)) c.frames_before.ensures) in
    let straight : Straight content c.args.n c.position-at.result c.loop_end-end.result c.args.from c.args.to stop =
    record { playable = c.requires.content; looping = on; here = c.position-at.ensures; there = c.loop_end-end.ensures.value; stops = stops } in
    drawn_same _ _ c.args.from c.args.to _ _ (subst (λ t. IsDrawn c.args.out.now c.draw_straight-2.new.out c.args.from t (λ m. sample c.args.channel.now (c.position-at.result + (m - c.args.from) * content.rate))) c.if-stop-to.true c.draw_straight-2.ensures)
    (λ m low high. let below : m < stop = omega (arith, c.if-stop-to.true) in ap (sample c.args.channel.now) (straight_value content c.args.n c.position-at.result c.loop_end-end.result c.args.from c.args.to stop m straight low below))

pub overflow_sub-round : goal.overflow_sub-round
overflow_sub-round c =
    let on : is_looping c.args.content.now ≡ true = sym c.is_looping.ensures ∙ c.if-not-is_looping.false in
    let order = loop_order c.args.content.now on in
    omega (arith, order, c.loop_start-start.ensures, c.loop_end-end.ensures.value)

pub nonzero_rem-round : goal.nonzero_rem-round
nonzero_rem-round c =
    let on : is_looping c.args.content.now ≡ true = sym c.is_looping.ensures ∙ c.if-not-is_looping.false in
    let order = loop_order c.args.content.now on in
    omega (arith, order, c.loop_start-start.ensures, c.loop_end-end.ensures.value)

pub draw_around-requires-clause-inside : goal.draw_around-requires-clause-inside
draw_around-requires-clause-inside c =
    let content = c.args.content.now in
    let on : is_looping content ≡ true = sym c.is_looping.ensures ∙ c.if-not-is_looping.false in
    let stop = c.args.from + c.min.result in
    let stops : stop ≡ c.args.from + min (div_ceil (c.loop_end-end.result - c.position-at.result) content.rate) (c.args.to - c.args.from) =
    ap (λ k. c.args.from + k) (c.min.ensures ∙ ap (λ k. min k (c.args.to - c.args.from)) c.frames_before.ensures) in
    let straight : Straight content c.args.n c.position-at.result c.loop_end-end.result c.args.from c.args.to stop =
    record { playable = c.requires.content; looping = on; here = c.position-at.ensures; there = c.loop_end-end.ensures.value; stops = stops } in
    let least = c.min.ensures in
    let turned = turns content c.args.n c.position-at.result c.loop_end-end.result c.args.from c.args.to stop straight (omega (arith, least, c.requires.ends, c.if-stop-to.false)) in
    let inside = position_inside content (c.args.n + (stop - c.args.from)) on in
    let here = c.position.ensures in
    (omega (arith, turned, here, c.loop_start-start.ensures), omega (arith, inside, here, c.loop_end-end.ensures.value), omega (arith, c.loop_end-end.ensures.within, c.requires.channel))

pub draw_around-requires-clause-jump : goal.draw_around-requires-clause-jump
draw_around-requires-clause-jump c =
    let on : is_looping c.args.content.now ≡ true = sym c.is_looping.ensures ∙ c.if-not-is_looping.false in
    let order = loop_order c.args.content.now on in
    let some : 0 < c.loop_end-end.result - c.loop_start-start.result = omega (arith, order, c.loop_start-start.ensures, c.loop_end-end.ensures.value) in
    mod-lt c.args.content.now.rate some

pub returns : goal.returns
returns c =
    let content = c.args.content.now in
    let on : is_looping content ≡ true = sym c.is_looping.ensures ∙ c.if-not-is_looping.false in
    let stop = c.args.from + c.min.result in
    let stops : stop ≡ c.args.from + min (div_ceil (c.loop_end-end.result - c.position-at.result) content.rate) (c.args.to - c.args.from) =
    ap (λ k. c.args.from + k) (c.min.ensures ∙ ap (λ k. min k (c.args.to - c.args.from)) c.frames_before.ensures) in
    let straight : Straight content c.args.n c.position-at.result c.loop_end-end.result c.args.from c.args.to stop =
    record { playable = c.requires.content; looping = on; here = c.position-at.ensures; there = c.loop_end-end.ensures.value; stops = stops } in
    let least = c.min.ensures in
    let short : stop < c.args.to = omega (arith, least, c.requires.ends, c.if-stop-to.false) in
    let turned = turns content c.args.n c.position-at.result c.loop_end-end.result c.args.from c.args.to stop straight short in
    drawn_joined _ _ _ c.args.from stop c.args.to _
    (drawn_same _ _ c.args.from stop _ _ c.draw_straight-2.ensures
    (λ m low high. ap (sample c.args.channel.now) (straight_value content c.args.n c.position-at.result c.loop_end-end.result c.args.from c.args.to stop m straight low high)))
    (drawn_same _ _ stop c.args.to _ _ c.draw_around.ensures
    (λ m low high. ap (sample c.args.channel.now) (around_value content c.args.n c.args.from stop m c.position.result c.loop_start-start.result c.loop_end-end.result on c.position.ensures c.loop_start-start.ensures c.loop_end-end.ensures.value turned (omega arith) low)))
    (omega arith) (omega arith)
