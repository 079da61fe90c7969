use Rattle.std.proofs.Common.{◌≡◌, ◌*◌, ◌^◌, ◌∙◌, ap, length, arith, true}
use Rattle.std.specs.Str.Parse.{digits_value}
use Rattle.script_fields.specs.Seconds.{are_digits}
use Rattle.script_fields.proofs.Digits.{given_if}
use Rattle.script_fields.proofs.Times.{with_point, product_below}
use Rattle.script_fields.proofs.seconds.decimal_of.Goals as goal

whole_given : (c : goal.After-pow) → (are_digits 10 c.in-Some.whole.now ≡ true) × (c.in_ok-units-in-Some.units ≡ digits_value 10 c.in-Some.whole.now)
whole_given c = given_if _ _ _ c.in_ok-units-in-Some.ensures.value

parts_given : (c : goal.After-pow) → (are_digits 9 c.in-Some.fraction.now ≡ true) × (c.in_ok-parts-in-Some.parts ≡ digits_value 10 c.in-Some.fraction.now)
parts_given c = given_if _ _ _ c.in_ok-parts-in-Some.ensures.value

pub overflow_mul-result : goal.overflow_mul-result
overflow_mul-result c =
    let most = product_below c.in-Some.whole.now c.in-Some.fraction.now c.in_ok-units-in-Some.units c.in_ok-parts-in-Some.parts (whole_given c) (parts_given c) in
    let power = ap (λ n. c.in_ok-units-in-Some.units * n) c.pow.ensures in
    omega (arith, most.0, power)

pub overflow_add-result : goal.overflow_add-result
overflow_add-result c =
    let most = product_below c.in-Some.whole.now c.in-Some.fraction.now c.in_ok-units-in-Some.units c.in_ok-parts-in-Some.parts (whole_given c) (parts_given c) in
    let power = ap (λ n. c.in_ok-units-in-Some.units * n) c.pow.ensures in
    omega (arith, most.0, most.1, power)

pub returns-in_ok-parts-in-Some-clause-value : goal.returns-in_ok-parts-in-Some-clause-value
returns-in_ok-parts-in-Some-clause-value c =
    let parts = c.in-Some.ensures.byte (omega arith) (λ w o h. h) in
    rw c.pow.ensures (with_point _ _ _ _ _ parts.0 parts.1 parts.2 (whole_given c) (parts_given c))
