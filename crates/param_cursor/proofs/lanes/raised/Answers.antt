use Rattle.std.proofs.Common.{rules, pos, ◌+◌, ◌%◌, ◌^◌, ◌+ℤ◌, ◌-ℤ◌, FitsSigned, of_z, ap, ◌∙◌, arith}
use Rattle.std.specs.Int.{w32, int_wrap}
use Rattle.std.proofs.lemmas.Int.{wraps, to_z-of_z, wrapping_add_is, wrapping_sub_onto}
use Rattle.param_cursor.proofs.Laning.{sum_of_rests, rest_past, wrapped_less}
use Rattle.param_cursor.proofs.lanes.raised.Goals as goal

pub returns-then-both-divisor-clause-below : goal.returns-then-both-divisor-clause-below
returns-then-both-divisor-clause-below c = λ low.
    let v = c.args.value in
    let a = c.args.above in
    let both : FitsSigned w32 (c.args.rest +ℤ c.args.part) = sum_of_rests c.args.rest c.args.part c.args.divisor c.requires.rest c.requires.part c.requires.divisor in
    let less = wrapping_sub_onto w32 ((of_z w32 v + of_z w32 a) % 2 ^ 32) (pos 1) (omega arith) (record { sfits = omega arith }) in
    (less ∙ ap (λ z. int_wrap w32 (z -ℤ pos 1)) (wrapping_add_is w32 v a c.ranges.value c.ranges.above) ∙ wrapped_less (v +ℤ a), simp (to_z-of_z _ _ c.ranges.rest, to_z-of_z _ _ c.ranges.part) (to_z-of_z _ _ both))

pub returns-else-both-divisor-clause-over : goal.returns-else-both-divisor-clause-over
returns-else-both-divisor-clause-over c = λ high.
    let both : FitsSigned w32 (c.args.rest +ℤ c.args.part) = sum_of_rests c.args.rest c.args.part c.args.divisor c.requires.rest c.requires.part c.requires.divisor in
    let past : FitsSigned w32 (c.args.rest +ℤ c.args.part -ℤ c.args.divisor) = rest_past c.args.rest c.args.part c.args.divisor c.requires.rest c.requires.part c.requires.divisor high in
    (search (rules, wraps), simp (to_z-of_z _ _ c.ranges.rest, to_z-of_z _ _ c.ranges.part, to_z-of_z _ _ c.ranges.divisor, to_z-of_z _ _ both) (to_z-of_z _ _ past))
