use Rattle.std.proofs.Common.{rules, ◌≡◌, ◌≤◌, ◌<◌, ◌+◌, ◌*◌, ◌^◌, ◌*ℤ◌, ◌+ℤ◌, pos, FitsSigned, ap, sym, subst, ◌∙◌, arith}
use Rattle.std.specs.Int.{w32, w64}
use Rattle.std.specs.Prelude.{unsigned_abs}
use Rattle.std.proofs.lemmas.Int.{ints, to_z-of_z, to_z_pos}
use Rattle.param_events.proofs.Euclid.{euclid_is}
use Rattle.param_cursor.specs.Rising.{Rising}
use Rattle.param_cursor.specs.Lanes.{AreParts, IsPart}
use Rattle.param_cursor.proofs.Parts.{quotient_small, quotient_within}
use Rattle.param_cursor.proofs.Laning.{first_fits, eight_within, near_within, fits_32, no_step, one_more_step, part_of, part_from, parts_more}
use Rattle.param_cursor.proofs.slope.Slope.lanes.Goals as goal

pub overflow_add-values : goal.overflow_add-values
overflow_add-values c =
    let so_far = c.loop-i.invariant in
    let v = c.parts-value.result.0 in
    let wide : FitsSigned w64 c.args.base = search rules in
    let long : FitsSigned w64 v = search rules in
    let bound : unsigned_abs c.loop-i.on.numerator ≤ 2 ^ 34 * c.loop-i.on.divisor = rw so_far.next (rw so_far.divisor (c.requires.small c.loop-i.i c.loop-i-test.true)) in
    let small = quotient_small v c.loop-i.on.numerator c.parts-value.result.1 c.loop-i.on.divisor c.parts-value.ensures.parts c.parts-value.ensures.rest bound in
    rw (c.from.ensures ∙ to_z-of_z _ _ c.ranges.base) (rw (to_z-of_z _ _ wide) (rw (to_z-of_z _ _ long) (first_fits c.args.base v c.ranges.base small)))

pub overflow_cast-values : goal.overflow_cast-values
overflow_cast-values c =
    let so_far = c.loop-i.invariant in
    let i = c.loop-i.i in
    let n = c.args.self.now.numerator +ℤ c.args.self.now.step *ℤ pos i in
    let d = c.args.self.now.divisor in
    let v = c.parts-value.result.0 in
    let r = c.parts-value.result.1 in
    let wide : FitsSigned w64 c.args.base = search rules in
    let long : FitsSigned w64 v = search rules in
    let bound : unsigned_abs c.loop-i.on.numerator ≤ 2 ^ 34 * c.loop-i.on.divisor = rw so_far.next (rw so_far.divisor (c.requires.small i c.loop-i-test.true)) in
    let small = quotient_small v c.loop-i.on.numerator r c.loop-i.on.divisor c.parts-value.ensures.parts c.parts-value.ensures.rest bound in
    let parts : v *ℤ pos d +ℤ pos r ≡ n = subst (λ k. v *ℤ pos k +ℤ pos r ≡ n) so_far.divisor (c.parts-value.ensures.parts ∙ so_far.next) in
    let rest : r < d = subst (λ k. r < k) so_far.divisor c.parts-value.ensures.rest in
    let narrow : FitsSigned w32 (c.args.base +ℤ v) = subst (λ z. FitsSigned w32 (c.args.base +ℤ z)) (euclid_is n v r d rest (sym parts)) (c.requires.fits i c.loop-i-test.true) in
    rw (c.from.ensures ∙ to_z-of_z _ _ c.ranges.base) (rw (to_z-of_z _ _ wide) (rw (to_z-of_z _ _ long) (rw (to_z-of_z _ _ (first_fits c.args.base v c.ranges.base small)) narrow)))

pub loop-i-preserved : goal.loop-i-preserved
loop-i-preserved c =
    let so_far = c.loop-i.invariant in
    let i = c.loop-i.i in
    let s = c.args.self.now.step in
    let n = c.args.self.now.numerator +ℤ s *ℤ pos i in
    let d = c.args.self.now.divisor in
    let v = c.parts-value.result.0 in
    let r = c.parts-value.result.1 in
    let base = c.args.base in
    let wide : FitsSigned w64 base = search rules in
    let long : FitsSigned w64 v = search rules in
    let bound : unsigned_abs c.loop-i.on.numerator ≤ 2 ^ 34 * c.loop-i.on.divisor = rw so_far.next (rw so_far.divisor (c.requires.small i c.loop-i-test.true)) in
    let small = quotient_small v c.loop-i.on.numerator r c.loop-i.on.divisor c.parts-value.ensures.parts c.parts-value.ensures.rest bound in
    let parts : v *ℤ pos d +ℤ pos r ≡ n = subst (λ k. v *ℤ pos k +ℤ pos r ≡ n) so_far.divisor (c.parts-value.ensures.parts ∙ so_far.next) in
    let rest : r < d = subst (λ k. r < k) so_far.divisor c.parts-value.ensures.rest in
    let narrow : FitsSigned w32 (base +ℤ v) = subst (λ z. FitsSigned w32 (base +ℤ z)) (euclid_is n v r d rest (sym parts)) (c.requires.fits i c.loop-i-test.true) in
    let sum = first_fits base v c.ranges.base small in
    let from = c.from.ensures ∙ to_z-of_z _ _ c.ranges.base in
    let sums : base *ℤ pos d +ℤ n ≡ base *ℤ pos d +ℤ c.args.self.now.numerator +ℤ s *ℤ pos i = omega (arith, ints) in
    let own = subst (λ z. IsPart (base +ℤ v) (pos r) z d) sums (part_from base v n r d parts rest narrow) in
    let had = subst (λ z. AreParts c.loop-i.values c.loop-i.rests (z *ℤ pos d +ℤ c.args.self.now.numerator) s d i) (to_z-of_z _ _ c.ranges.base) so_far.so_far in
    let lanes = parts_more c.loop-i.values c.loop-i.rests (base *ℤ pos d +ℤ c.args.self.now.numerator) s (base +ℤ v) (pos r) d i had (omega (arith, so_far.values, c.loop-i-test.true)) (omega (arith, so_far.rests, c.loop-i-test.true)) own in
    let low : r < 2 ^ 31 = omega (arith, rest, c.requires.narrow.divisor) in
    let more = one_more_step s i in
    let next : n +ℤ s ≡ c.args.self.now.numerator +ℤ s *ℤ pos (i + 1) = omega (arith, ints, more) in
    record {
      values = search rules;
      rests = search rules;
      so_far = simp (from, to_z-of_z _ _ c.ranges.base, to_z-of_z _ _ wide, to_z-of_z _ _ long, to_z-of_z _ _ sum, to_z-of_z _ _ narrow, to_z_pos w32 r low) lanes;
      next = ap (λ (g : Rising). g.numerator) c.advance.ensures ∙ ap (λ z. z +ℤ c.loop-i.on.step) so_far.next ∙ ap (λ z. n +ℤ z) so_far.step ∙ next;
      step = ap (λ (g : Rising). g.step) c.advance.ensures ∙ so_far.step;
      divisor = ap (λ (g : Rising). g.divisor) c.advance.ensures ∙ so_far.divisor;
    }

pub way-whole-requires-clause-small : goal.way-whole-requires-clause-small
way-whole-requires-clause-small c =
    let g = c.args.self.now in
    let start : unsigned_abs g.numerator ≤ 2 ^ 34 * g.divisor = subst (λ z. unsigned_abs z ≤ 2 ^ 34 * g.divisor) (no_step g.numerator g.step) (c.requires.small 0 (omega arith)) in
    quotient_small c.parts.result.0 g.numerator c.parts.result.1 g.divisor c.parts.ensures.parts c.parts.ensures.rest start

pub way-whole-requires-clause-near : goal.way-whole-requires-clause-near
way-whole-requires-clause-near c =
    let so_far = c.loop-i.invariant in
    let g = c.args.self.now in
    let all : c.loop-i.i ≡ 8 = omega (arith, c.loop-i-test.false, c.loop-i.auto.i-end) in
    let start : unsigned_abs g.numerator ≤ 2 ^ 34 * g.divisor = subst (λ z. unsigned_abs z ≤ 2 ^ 34 * g.divisor) (no_step g.numerator g.step) (c.requires.small 0 (omega arith)) in
    let near = near_within g.numerator g.step g.divisor start (eight_within g.step g.divisor c.requires.narrow.step) in
    let next : c.loop-i.on.numerator ≡ g.numerator +ℤ g.step *ℤ pos 8 = so_far.next ∙ ap (λ k. g.numerator +ℤ g.step *ℤ pos k) all in
    let bound : unsigned_abs c.loop-i.on.numerator ≤ 2 ^ 35 * c.loop-i.on.divisor = rw next (rw so_far.divisor near) in
    quotient_within (2 ^ 35) c.parts-2.result.0 c.loop-i.on.numerator c.parts-2.result.1 c.loop-i.on.divisor c.parts-2.ensures.parts c.parts-2.ensures.rest bound

pub overflow_cast-result : goal.overflow_cast-result
overflow_cast-result c =
    let so_far = c.loop-i.invariant in
    let g = c.args.self.now in
    let w = c.way-whole.result.0 in
    let wide : FitsSigned w64 w = search rules in
    let all : c.loop-i.i ≡ 8 = omega (arith, c.loop-i-test.false, c.loop-i.auto.i-end) in
    let next : c.loop-i.on.numerator ≡ g.numerator +ℤ g.step *ℤ pos 8 = so_far.next ∙ ap (λ k. g.numerator +ℤ g.step *ℤ pos k) all in
    let inside : c.self-2.inside.divisor ≡ g.divisor = ap (λ (r : Rising). r.divisor) c.self-2.view_is in
    let from = c.parts.ensures.parts in
    let to = subst (λ k. c.parts-2.result.0 *ℤ pos k +ℤ pos c.parts-2.result.1 ≡ g.numerator +ℤ g.step *ℤ pos 8) so_far.divisor (c.parts-2.ensures.parts ∙ next) in
    let way = subst (λ k. (c.parts.result.0 *ℤ pos k +ℤ pos c.parts.result.1) +ℤ (w *ℤ pos k +ℤ pos c.way-whole.result.1) ≡ c.parts-2.result.0 *ℤ pos k +ℤ pos c.parts-2.result.1) inside c.way-whole.ensures.parts in
    let parts : w *ℤ pos g.divisor +ℤ pos c.way-whole.result.1 ≡ g.step *ℤ pos 8 = omega (arith, ints, from, to, way) in
    let rest : c.way-whole.result.1 < g.divisor = subst (λ k. c.way-whole.result.1 < k) inside c.way-whole.ensures.rest in
    rw (to_z-of_z _ _ wide) (fits_32 w (quotient_within (2 ^ 29 + 8) w (g.step *ℤ pos 8) c.way-whole.result.1 g.divisor parts rest (eight_within g.step g.divisor c.requires.narrow.step)))

pub returns : goal.returns
returns c =
    let so_far = c.loop-i.invariant in
    let g = c.args.self.now in
    let w = c.way-whole.result.0 in
    let t = c.way-whole.result.1 in
    let wide : FitsSigned w64 w = search rules in
    let all : c.loop-i.i ≡ 8 = omega (arith, c.loop-i-test.false, c.loop-i.auto.i-end) in
    let next : c.loop-i.on.numerator ≡ g.numerator +ℤ g.step *ℤ pos 8 = so_far.next ∙ ap (λ k. g.numerator +ℤ g.step *ℤ pos k) all in
    let inside : c.self-2.inside.divisor ≡ g.divisor = ap (λ (r : Rising). r.divisor) c.self-2.view_is in
    let from = c.parts.ensures.parts in
    let to = subst (λ k. c.parts-2.result.0 *ℤ pos k +ℤ pos c.parts-2.result.1 ≡ g.numerator +ℤ g.step *ℤ pos 8) so_far.divisor (c.parts-2.ensures.parts ∙ next) in
    let way = subst (λ k. (c.parts.result.0 *ℤ pos k +ℤ pos c.parts.result.1) +ℤ (w *ℤ pos k +ℤ pos t) ≡ c.parts-2.result.0 *ℤ pos k +ℤ pos c.parts-2.result.1) inside c.way-whole.ensures.parts in
    let parts : w *ℤ pos g.divisor +ℤ pos t ≡ g.step *ℤ pos 8 = omega (arith, ints, from, to, way) in
    let rest : t < g.divisor = subst (λ k. t < k) inside c.way-whole.ensures.rest in
    let narrow = fits_32 w (quotient_within (2 ^ 29 + 8) w (g.step *ℤ pos 8) t g.divisor parts rest (eight_within g.step g.divisor c.requires.narrow.step)) in
    let low : t < 2 ^ 31 = omega (arith, rest, c.requires.narrow.divisor) in
    let few : c.self-2.inside.divisor < 2 ^ 31 = omega (arith, inside, c.requires.narrow.divisor) in
    let lanes = subst (AreParts c.loop-i.values c.loop-i.rests (c.args.base *ℤ pos g.divisor +ℤ g.numerator) g.step g.divisor) all
    (subst (λ z. AreParts c.loop-i.values c.loop-i.rests (z *ℤ pos g.divisor +ℤ g.numerator) g.step g.divisor c.loop-i.i) (to_z-of_z _ _ c.ranges.base) so_far.so_far) in
    record {
      small = c.requires.narrow.divisor;
      same = to_z_pos w32 c.self-2.inside.divisor few ∙ ap pos inside;
      each = lanes;
      all = simp (to_z-of_z _ _ wide, to_z-of_z _ _ narrow, to_z_pos w32 t low) (part_of w (g.step *ℤ pos 8) t g.divisor parts rest narrow);
    }
