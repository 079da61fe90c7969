use Rattle.std.proofs.Common.{rules, ◌≡◌, ◌+◌, ◌-◌, ◌<◌, ◌+ℤ◌, ◌*ℤ◌, pos, ℕ, slice_index_or, FitsSigned, to_z, of_z, ap, sym, subst, refl, ◌∙◌, arith}
use Rattle.std.specs.Int.{w32}
use Rattle.std.proofs.lemmas.Int.{to_z-of_z}
use Rattle.param_cursor.specs.Lanes.{AreLanes}
use Rattle.param_cursor.specs.Rising.{numerator_on, value_on}
use Rattle.param_cursor.proofs.Draws.{drawn_part, drawn_same, drawn_joined}
use Rattle.param_cursor.proofs.Laning.{no_step, lane_value, lanes_on}
use Rattle.param_cursor.proofs.drawing.draw_lanes.Goals as goal

pub loop-m-init : goal.loop-m-init
loop-m-init c =
    let r = c.args.slope.now in
    let none : c.args.at - c.args.at ≡ 0 = omega arith in
    let start : numerator_on r (c.args.at - c.args.at) ≡ r.numerator = ap (numerator_on r) none ∙ no_step r.numerator r.step in
    record {
      begun = omega arith;
      within = omega arith;
      length = refl;
      drawn = record { drawn = λ m low high. absurd (omega arith); kept = λ m low. refl };
      lanes = subst (λ z. AreLanes c.lanes-lanes.result (to_z w32 (of_z w32 c.args.from) *ℤ pos r.divisor +ℤ z) r.step r.divisor) (sym start) c.lanes-lanes.ensures;
    }

pub loop-m-preserved : goal.loop-m-preserved
loop-m-preserved c =
    let so_far = c.loop-m.invariant in
    let begun = so_far.begun in
    let m = c.loop-m.m in
    let k = m - c.args.at in
    let r = c.args.slope.now in
    let from = to_z w32 (of_z w32 c.args.from) in
    let same : from ≡ c.args.from = to_z-of_z _ _ c.ranges.from in
    let room = c.loop-m-test.true in
    let is : (i : ℕ) → i < 8 → slice_index_or c.loop-m.lanes.values i (pos 0) ≡ value_on from r (m + i - c.args.at) = λ i low.
    let on : m + i - c.args.at ≡ k + i = omega arith in
    let place : c.args.at + (k + i) < c.args.end = omega arith in
    let fits : FitsSigned w32 (value_on from r (k + i)) = subst (λ z. FitsSigned w32 (value_on z r (k + i))) (sym same) (c.requires.fits (k + i) place) in
    lane_value c.loop-m.lanes from r k i so_far.lanes low fits ∙ ap (value_on from r) (sym on) in
    record {
      begun = omega arith;
      within = omega arith;
      length = search rules;
      drawn = drawn_part c.args.out.now c.loop-m.out c.write.new.out c.args.at m (m + 8 - m) 8 _ so_far.drawn begun (omega (arith, so_far.length)) c.write.ensures.length (λ i low. c.write.ensures.values i low ∙ is i low);
      lanes = lanes_on c.advance.new.self from r k (m + 8 - c.args.at) (c.advance.ensures (from *ℤ pos r.divisor +ℤ numerator_on r k) r.step r.divisor so_far.lanes) (omega arith);
    }

pub returns : goal.returns
returns c =
    let so_far = c.loop-m.invariant in
    let begun = so_far.begun in
    let within = so_far.within in
    let m = c.loop-m.m in
    let at = c.args.at in
    let k = m - at in
    let r = c.args.slope.now in
    let from = to_z w32 (of_z w32 c.args.from) in
    let same : from ≡ c.args.from = to_z-of_z _ _ c.ranges.from in
    let few = c.loop-m-test.false in
    let lanes = subst (λ z. AreLanes c.loop-m.lanes (z *ℤ pos r.divisor +ℤ numerator_on r k) r.step r.divisor) same so_far.lanes in
    drawn_joined _ _ _ at m c.args.end _
    (drawn_same _ _ _ _ _ _ so_far.drawn (λ j low high. ap (λ z. value_on z r (j - at)) same))
    (drawn_same _ _ _ _ _ _ c.draw_left.ensures (λ j low high.
    let on : j - at ≡ k + (j - m) = omega arith in
    let place : at + (k + (j - m)) < c.args.end = omega arith in
    lane_value c.loop-m.lanes c.args.from r k (j - m) lanes (omega arith) (c.requires.fits (k + (j - m)) place) ∙ ap (value_on c.args.from r) (sym on)))
    begun
