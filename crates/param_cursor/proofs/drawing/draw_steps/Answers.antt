use Rattle.std.proofs.Common.{rules, ◌≡◌, ◌≤◌, ◌+◌, ◌-◌, ◌^◌, ◌-ℤ◌, ◌*◌, FitsSigned, ap, sym, refl, subst, ◌∙◌, arith}
use Rattle.std.specs.Int.{w32, w64}
use Rattle.std.specs.Prelude.{unsigned_abs}
use Rattle.std.proofs.lemmas.Int.{to_z-of_z}
use Rattle.param_cursor.specs.Rising.{Rising, share_rising, numerator_on, value_on}
use Rattle.param_cursor.proofs.Draws.{share_small, rise_small, gain_small, line_fits, share_on, line_on, drawn_same}
use Rattle.param_cursor.proofs.drawing.draw_steps.Goals as goal

pub draw_lanes-requires-clause-small : goal.draw_lanes-requires-clause-small
draw_lanes-requires-clause-small c = λ k low.
    let from : FitsSigned w32 c.args.segment.from = search rules in
    let to : FitsSigned w32 c.args.segment.to = search rules in
    let x = c.args.segment.to -ℤ c.args.segment.from in
    let r : FitsSigned w64 c.rise.result = search rules in
    let share : c.share_from-slope.result ≡ share_rising x c.args.n c.args.gain c.args.segment.parts = c.share_from-slope.ensures ∙ ap (λ z. share_rising z c.args.n c.args.gain c.args.segment.parts) (to_z-of_z _ _ r ∙ search rules) in
    let back : c.args.at + k - c.args.at ≡ k = omega arith in
    let within : c.args.n + c.args.gain * k ≤ c.args.segment.parts = subst (λ j. c.args.n + c.args.gain * j ≤ c.args.segment.parts) back (c.requires.before (c.args.at + k) (omega arith) low) in
    subst (λ (s : Rising). unsigned_abs (numerator_on s k) ≤ 2 ^ 34 * s.divisor) (sym share)
    (rw (share_on x c.args.n c.args.gain c.args.segment.parts k) (share_small x (c.args.n + c.args.gain * k) c.args.gain c.args.segment.parts (rise_small _ _ from to) within))

pub draw_lanes-requires-clause-fits : goal.draw_lanes-requires-clause-fits
draw_lanes-requires-clause-fits c = λ k low.
    let from : FitsSigned w32 c.args.segment.from = search rules in
    let to : FitsSigned w32 c.args.segment.to = search rules in
    let r : FitsSigned w64 c.rise.result = search rules in
    let share : c.share_from-slope.result ≡ share_rising (c.args.segment.to -ℤ c.args.segment.from) c.args.n c.args.gain c.args.segment.parts = c.share_from-slope.ensures ∙ ap (λ z. share_rising z c.args.n c.args.gain c.args.segment.parts) (to_z-of_z _ _ r ∙ search rules) in
    let back : c.args.at + k - c.args.at ≡ k = omega arith in
    let within : c.args.n + c.args.gain * k ≤ c.args.segment.parts = subst (λ j. c.args.n + c.args.gain * j ≤ c.args.segment.parts) back (c.requires.before (c.args.at + k) (omega arith) low) in
    let line = line_on c.args.segment.from c.args.segment.to c.args.n c.args.gain c.args.segment.parts k c.requires.some in
    let fits = line_fits c.args.segment.from c.args.segment.to _ (c.args.n + c.args.gain * k) c.args.segment.parts from to c.requires.some within refl in
    rw (to_z-of_z _ _ from) (subst (λ (s : Rising). FitsSigned w32 (value_on c.args.segment.from s k)) (sym share) (rw line fits))

pub draw_singly-requires-clause-small : goal.draw_singly-requires-clause-small
draw_singly-requires-clause-small c = λ k low.
    let from : FitsSigned w32 c.args.segment.from = search rules in
    let to : FitsSigned w32 c.args.segment.to = search rules in
    let x = c.args.segment.to -ℤ c.args.segment.from in
    let r : FitsSigned w64 c.rise.result = search rules in
    let share : c.share_from-slope.result ≡ share_rising x c.args.n c.args.gain c.args.segment.parts = c.share_from-slope.ensures ∙ ap (λ z. share_rising z c.args.n c.args.gain c.args.segment.parts) (to_z-of_z _ _ r ∙ search rules) in
    let back : c.args.at + k - c.args.at ≡ k = omega arith in
    let within : c.args.n + c.args.gain * k ≤ c.args.segment.parts = subst (λ j. c.args.n + c.args.gain * j ≤ c.args.segment.parts) back (c.requires.before (c.args.at + k) (omega arith) low) in
    subst (λ (s : Rising). unsigned_abs (numerator_on s k) ≤ 2 ^ 34 * s.divisor) (sym share)
    (rw (share_on x c.args.n c.args.gain c.args.segment.parts k) (share_small x (c.args.n + c.args.gain * k) c.args.gain c.args.segment.parts (rise_small _ _ from to) within))

pub draw_singly-requires-clause-fits : goal.draw_singly-requires-clause-fits
draw_singly-requires-clause-fits c = λ k low.
    let from : FitsSigned w32 c.args.segment.from = search rules in
    let to : FitsSigned w32 c.args.segment.to = search rules in
    let r : FitsSigned w64 c.rise.result = search rules in
    let share : c.share_from-slope.result ≡ share_rising (c.args.segment.to -ℤ c.args.segment.from) c.args.n c.args.gain c.args.segment.parts = c.share_from-slope.ensures ∙ ap (λ z. share_rising z c.args.n c.args.gain c.args.segment.parts) (to_z-of_z _ _ r ∙ search rules) in
    let back : c.args.at + k - c.args.at ≡ k = omega arith in
    let within : c.args.n + c.args.gain * k ≤ c.args.segment.parts = subst (λ j. c.args.n + c.args.gain * j ≤ c.args.segment.parts) back (c.requires.before (c.args.at + k) (omega arith) low) in
    let line = line_on c.args.segment.from c.args.segment.to c.args.n c.args.gain c.args.segment.parts k c.requires.some in
    let fits = line_fits c.args.segment.from c.args.segment.to _ (c.args.n + c.args.gain * k) c.args.segment.parts from to c.requires.some within refl in
    rw (to_z-of_z _ _ from) (subst (λ (s : Rising). FitsSigned w32 (value_on c.args.segment.from s k)) (sym share) (rw line fits))

pub draw_singly-requires-clause-step : goal.draw_singly-requires-clause-step
draw_singly-requires-clause-step c =
    let from : FitsSigned w32 c.args.segment.from = search rules in
    let to : FitsSigned w32 c.args.segment.to = search rules in
    let r : FitsSigned w64 c.rise.result = search rules in
    let share : c.share_from-slope.result ≡ share_rising (c.args.segment.to -ℤ c.args.segment.from) c.args.n c.args.gain c.args.segment.parts = c.share_from-slope.ensures ∙ ap (λ z. share_rising z c.args.n c.args.gain c.args.segment.parts) (to_z-of_z _ _ r ∙ search rules) in
    let small = gain_small (c.args.segment.to -ℤ c.args.segment.from) c.args.gain c.args.segment.parts (rise_small _ _ from to) c.requires.gain in
    subst (λ (s : Rising). unsigned_abs s.step ≤ 2 ^ 34 * s.divisor) (sym share) (omega (arith, small))

pub returns-then-is_narrow : goal.returns-then-is_narrow
returns-then-is_narrow c =
    let from : FitsSigned w32 c.args.segment.from = search rules in
    let r : FitsSigned w64 c.rise.result = search rules in
    let share : c.share_from-slope.result ≡ share_rising (c.args.segment.to -ℤ c.args.segment.from) c.args.n c.args.gain c.args.segment.parts = c.share_from-slope.ensures ∙ ap (λ z. share_rising z c.args.n c.args.gain c.args.segment.parts) (to_z-of_z _ _ r ∙ search rules) in
    drawn_same _ _ _ _ _ _ c.draw_lanes.ensures (λ m low high.
    ap (λ z. value_on z c.share_from-slope.result (m - c.args.at)) (to_z-of_z _ _ from)
    ∙ ap (λ (s : Rising). value_on c.args.segment.from s (m - c.args.at)) share
    ∙ line_on c.args.segment.from c.args.segment.to c.args.n c.args.gain c.args.segment.parts (m - c.args.at) c.requires.some)

pub returns-else-end-at-ge-LANES : goal.returns-else-end-at-ge-LANES
returns-else-end-at-ge-LANES c =
    let from : FitsSigned w32 c.args.segment.from = search rules in
    let r : FitsSigned w64 c.rise.result = search rules in
    let share : c.share_from-slope.result ≡ share_rising (c.args.segment.to -ℤ c.args.segment.from) c.args.n c.args.gain c.args.segment.parts = c.share_from-slope.ensures ∙ ap (λ z. share_rising z c.args.n c.args.gain c.args.segment.parts) (to_z-of_z _ _ r ∙ search rules) in
    drawn_same _ _ _ _ _ _ c.draw_singly.ensures (λ m low high.
    ap (λ z. value_on z c.share_from-slope.result (m - c.args.at)) (to_z-of_z _ _ from)
    ∙ ap (λ (s : Rising). value_on c.args.segment.from s (m - c.args.at)) share
    ∙ line_on c.args.segment.from c.args.segment.to c.args.n c.args.gain c.args.segment.parts (m - c.args.at) c.requires.some)
