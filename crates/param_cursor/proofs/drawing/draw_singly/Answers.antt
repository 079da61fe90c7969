use Rattle.std.proofs.Common.{rules, ◌≡◌, ◌≤◌, ◌+◌, ◌-◌, ◌*◌, ◌^◌, ◌+ℤ◌, pos, FitsSigned, ap, sym, refl, subst, ◌∙◌, arith}
use Rattle.std.specs.Int.{w32, w64, int_div_euclid}
use Rattle.std.specs.Prelude.{unsigned_abs}
use Rattle.std.proofs.lemmas.Int.{ints, to_z-of_z}
use Rattle.param_cursor.specs.Rising.{Rising, numerator_on, value_on}
use Rattle.param_cursor.proofs.Draws.{drawn_more, drawn_same, drawn_less, widened}
use Rattle.param_cursor.proofs.Laning.{no_step, one_more_step}
use Rattle.param_cursor.proofs.drawing.draw_singly.Goals as goal

pub loop-m-init : goal.loop-m-init
loop-m-init c =
    let none : c.args.at - c.args.at ≡ 0 = omega arith in
    record {
      begun = omega arith;
      length = refl;
      drawn = record { drawn = λ m low high. absurd (omega arith); kept = λ m low. refl };
      numerator = sym (ap (numerator_on c.args.slope) none ∙ no_step c.args.slope.numerator c.args.slope.step);
      step = refl;
      divisor = refl;
    }

pub overflow_add-out : goal.overflow_add-out
overflow_add-out c =
    let r = c.args.slope in
    let so_far = c.loop-m.invariant in
    let k = c.loop-m.m - c.args.at in
    let wide : FitsSigned w64 c.args.from = search rules in
    let part : FitsSigned w64 c.value.result = search rules in
    let share : c.value.result ≡ int_div_euclid (numerator_on r k) (pos r.divisor) = c.value.ensures ∙ ap (λ z. int_div_euclid z (pos c.loop-m.on.divisor)) so_far.numerator ∙ ap (λ d. int_div_euclid (numerator_on r k) (pos d)) so_far.divisor in
    let sum : FitsSigned w32 (c.args.from +ℤ c.value.result) = subst (λ z. FitsSigned w32 (c.args.from +ℤ z)) (sym share) (c.requires.fits k (omega (arith, so_far.begun))) in
    simp (to_z-of_z _ _ c.ranges.from, to_z-of_z _ _ wide, to_z-of_z _ _ part) (widened _ sum)

pub overflow_cast-out-in-loop-m : goal.overflow_cast-out-in-loop-m
overflow_cast-out-in-loop-m c =
    let r = c.args.slope in
    let so_far = c.loop-m.invariant in
    let k = c.loop-m.m - c.args.at in
    let wide : FitsSigned w64 c.args.from = search rules in
    let part : FitsSigned w64 c.value.result = search rules in
    let share : c.value.result ≡ int_div_euclid (numerator_on r k) (pos r.divisor) = c.value.ensures ∙ ap (λ z. int_div_euclid z (pos c.loop-m.on.divisor)) so_far.numerator ∙ ap (λ d. int_div_euclid (numerator_on r k) (pos d)) so_far.divisor in
    let sum : FitsSigned w32 (c.args.from +ℤ c.value.result) = subst (λ z. FitsSigned w32 (c.args.from +ℤ z)) (sym share) (c.requires.fits k (omega (arith, so_far.begun))) in
    simp (to_z-of_z _ _ c.ranges.from, to_z-of_z _ _ wide, to_z-of_z _ _ part, to_z-of_z _ _ (widened _ sum)) sum

pub advance-requires-clause-numerator : goal.advance-requires-clause-numerator
advance-requires-clause-numerator c =
    let so_far = c.loop-m.invariant in
    let bound : unsigned_abs c.loop-m.on.numerator ≤ 2 ^ 34 * c.loop-m.on.divisor = rw so_far.numerator (rw so_far.divisor (c.requires.small (c.loop-m.m - c.args.at) (omega (arith, so_far.begun)))) in
    bound

pub advance-requires-clause-step : goal.advance-requires-clause-step
advance-requires-clause-step c =
    let so_far = c.loop-m.invariant in
    let bound : unsigned_abs c.loop-m.on.step ≤ 2 ^ 34 * c.loop-m.on.divisor = rw so_far.step (rw so_far.divisor c.requires.step) in
    bound

pub loop-m-preserved : goal.loop-m-preserved
loop-m-preserved c =
    let r = c.args.slope in
    let so_far = c.loop-m.invariant in
    let k = c.loop-m.m - c.args.at in
    let one : c.loop-m.m + 1 - c.args.at ≡ k + 1 = omega (arith, so_far.begun) in
    let wide : FitsSigned w64 c.args.from = search rules in
    let part : FitsSigned w64 c.value.result = search rules in
    let share : c.value.result ≡ int_div_euclid (numerator_on r k) (pos r.divisor) = c.value.ensures ∙ ap (λ z. int_div_euclid z (pos c.loop-m.on.divisor)) so_far.numerator ∙ ap (λ d. int_div_euclid (numerator_on r k) (pos d)) so_far.divisor in
    let sum : FitsSigned w32 (c.args.from +ℤ c.value.result) = subst (λ z. FitsSigned w32 (c.args.from +ℤ z)) (sym share) (c.requires.fits k (omega (arith, so_far.begun))) in
    let more = one_more_step r.step k in
    let next : numerator_on r k +ℤ r.step ≡ numerator_on r (k + 1) = omega (arith, ints, more) in
    record {
      begun = omega (arith, so_far.begun);
      length = search rules;
      drawn = drawn_more _ _ _ _ _ _ so_far.drawn so_far.begun (omega (arith, so_far.length))
          (simp (to_z-of_z _ _ c.ranges.from, to_z-of_z _ _ wide, to_z-of_z _ _ part, to_z-of_z _ _ (widened _ sum), to_z-of_z _ _ sum) (ap (λ z. c.args.from +ℤ z) share));
      numerator = ap (λ (s : Rising). s.numerator) c.advance.ensures
          ∙ ap (λ z. z +ℤ c.loop-m.on.step) so_far.numerator
          ∙ ap (λ z. numerator_on r k +ℤ z) so_far.step
          ∙ next ∙ ap (numerator_on r) (sym one);
      step = ap (λ (s : Rising). s.step) c.advance.ensures ∙ so_far.step;
      divisor = ap (λ (s : Rising). s.divisor) c.advance.ensures ∙ so_far.divisor;
    }

pub returns : goal.returns
returns c =
    let so_far = c.loop-m.invariant in
    drawn_same _ _ _ _ _ _ (drawn_less _ _ _ c.loop-m.m c.args.end _ so_far.drawn (omega arith)) (λ j low high. ap (λ z. value_on z c.args.slope (j - c.args.at)) (to_z-of_z _ _ c.ranges.from))
