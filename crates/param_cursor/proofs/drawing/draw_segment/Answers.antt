use Rattle.std.proofs.Common.{rules, ◌≡◌, ◌≤◌, ◌+◌, ◌-◌, ◌*◌, ap, subst, ◌∙◌, arith, FitsSigned}
use Rattle.std.specs.Int.{w32}
use Rattle.std.proofs.lemmas.Int.{to_z-of_z}
use Rattle.param_events.specs.Values as values
use Rattle.param_cursor.proofs.Draws.{drawn_one}
use Rattle.param_cursor.proofs.drawing.draw_segment.Goals as goal

pub draw_steps-requires-clause-gain : goal.draw_steps-requires-clause-gain
draw_steps-requires-clause-gain c =
    let second = c.requires.before (c.args.at + 1) (omega arith) (omega arith) in
    let one : c.args.at + 1 - c.args.at ≡ 1 = omega arith in
    let more : c.args.n + c.args.gain * 1 ≤ c.args.segment.parts = subst (λ k. c.args.n + c.args.gain * k ≤ c.args.segment.parts) one second in
    omega (arith, more)

pub returns-then-end-at-eq1 : goal.returns-then-end-at-eq1
returns-then-end-at-eq1 c =
    let fits : FitsSigned w32 c.along.result = search rules in
    let none : c.args.at - c.args.at ≡ 0 = omega arith in
    let start : c.args.n ≡ c.args.n + c.args.gain * (c.args.at - c.args.at) = rw none (omega arith) in
    drawn_one _ c.args.at c.args.end _ _ (omega arith) c.requires.ends (to_z-of_z _ _ fits ∙ search rules ∙ ap (λ k. values.along c.args.segment.from c.args.segment.to k c.args.segment.parts) start)
