use Rattle.std.proofs.Common.{rules, ◌<◌, ◌≤◌, ◌+◌, ◌-◌, ◌*◌, ◌^◌, ◌+ℤ◌, ◌*ℤ◌, pos, FitsSigned, ap, refl, subst, sym, ◌∙◌}
use Rattle.std.specs.Int.{w64}
use Rattle.std.specs.Prelude.{unsigned_abs}
use Rattle.std.proofs.lemmas.Int.{to_z-of_z}
use Rattle.param_cursor.specs.Rising.{Rising}
use Rattle.param_cursor.proofs.Parts.{quotient_small, step_below, step_over, sum_is_small, next_is_small}
use Rattle.param_cursor.proofs.slope.Slope.raise.Goals as goal

pub overflow_add-self : goal.overflow_add-self
overflow_add-self c =
    let v : FitsSigned w64 c.self.inside.value = search rules in
    let s : FitsSigned w64 c.args.whole = search rules in
    let a = quotient_small c.self.inside.value _ c.self.inside.rest c.self.inside.divisor refl c.self.invariant.rest (subst (λ (r : Rising). unsigned_abs r.numerator ≤ 2 ^ 34 * r.divisor) (sym c.self.view_is) c.requires.numerator) in
    let b = c.requires.whole in
    let sum = sum_is_small c.self.inside.value c.args.whole a b in
    simp (to_z-of_z _ _ v, to_z-of_z _ _ s) sum

pub overflow_add-self-else-self-room : goal.overflow_add-self-else-self-room
overflow_add-self-else-self-room c =
    let v : FitsSigned w64 c.self.inside.value = search rules in
    let s : FitsSigned w64 c.args.whole = search rules in
    let a = quotient_small c.self.inside.value _ c.self.inside.rest c.self.inside.divisor refl c.self.invariant.rest (subst (λ (r : Rising). unsigned_abs r.numerator ≤ 2 ^ 34 * r.divisor) (sym c.self.view_is) c.requires.numerator) in
    let b = c.requires.whole in
    let sum = sum_is_small c.self.inside.value c.args.whole a b in
    let next = next_is_small c.self.inside.value c.args.whole a b in
    simp (to_z-of_z _ _ v, to_z-of_z _ _ s, to_z-of_z _ _ sum) next

pub returns-then-self-room : goal.returns-then-self-room
returns-then-self-room c =
    let v : FitsSigned w64 c.self.inside.value = search rules in
    let s : FitsSigned w64 c.args.whole = search rules in
    let a = quotient_small c.self.inside.value _ c.self.inside.rest c.self.inside.divisor refl c.self.invariant.rest (subst (λ (r : Rising). unsigned_abs r.numerator ≤ 2 ^ 34 * r.divisor) (sym c.self.view_is) c.requires.numerator) in
    let b = c.requires.whole in
    let sum = sum_is_small c.self.inside.value c.args.whole a b in
    let rest : c.args.rest < c.self.inside.divisor = subst (λ (r : Rising). c.args.rest < r.divisor) (sym c.self.view_is) c.requires.rest in
    let e = step_below c.self.inside.value c.args.whole c.self.inside.rest c.args.rest c.self.inside.divisor in
    let rises : Rising = record { numerator = c.self.inside.value; step = c.self.inside.step *ℤ pos c.self.inside.divisor +ℤ pos c.self.inside.step_rest; divisor = c.self.inside.divisor } in
    ap (λ z. let r : Rising = record rises { numerator = z *ℤ pos c.self.inside.divisor +ℤ pos (c.self.inside.rest + c.args.rest) } in r) (simp (to_z-of_z _ _ v, to_z-of_z _ _ s) (to_z-of_z _ _ sum))
    ∙ ap (λ z. let r : Rising = record rises { numerator = z } in r) e
    ∙ ap (λ (r : Rising). let t : Rising = record r { numerator = r.numerator +ℤ (c.args.whole *ℤ pos r.divisor +ℤ pos c.args.rest) } in t) c.self.view_is

pub returns-else-self-room : goal.returns-else-self-room
returns-else-self-room c =
    let v : FitsSigned w64 c.self.inside.value = search rules in
    let s : FitsSigned w64 c.args.whole = search rules in
    let a = quotient_small c.self.inside.value _ c.self.inside.rest c.self.inside.divisor refl c.self.invariant.rest (subst (λ (r : Rising). unsigned_abs r.numerator ≤ 2 ^ 34 * r.divisor) (sym c.self.view_is) c.requires.numerator) in
    let b = c.requires.whole in
    let sum = sum_is_small c.self.inside.value c.args.whole a b in
    let next = next_is_small c.self.inside.value c.args.whole a b in
    let rest : c.args.rest < c.self.inside.divisor = subst (λ (r : Rising). c.args.rest < r.divisor) (sym c.self.view_is) c.requires.rest in
    let e = step_over c.self.inside.value c.args.whole c.self.inside.rest c.args.rest c.self.inside.divisor rest c.if-self-room.false in
    let rises : Rising = record { numerator = c.self.inside.value; step = c.self.inside.step *ℤ pos c.self.inside.divisor +ℤ pos c.self.inside.step_rest; divisor = c.self.inside.divisor } in
    ap (λ z. let r : Rising = record rises { numerator = z *ℤ pos c.self.inside.divisor +ℤ pos (c.self.inside.rest - (c.self.inside.divisor - c.args.rest)) } in r) (simp (to_z-of_z _ _ v, to_z-of_z _ _ s, to_z-of_z _ _ sum) (to_z-of_z _ _ next))
    ∙ ap (λ z. let r : Rising = record rises { numerator = z } in r) e
    ∙ ap (λ (r : Rising). let t : Rising = record r { numerator = r.numerator +ℤ (c.args.whole *ℤ pos r.divisor +ℤ pos c.args.rest) } in t) c.self.view_is
