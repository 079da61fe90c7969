use Rattle.std.proofs.Common.{rules, ◌≡◌, ◌*ℤ◌, ◌+ℤ◌, ◌-ℤ◌, pos, FitsSigned, ap, ◌∙◌, subst, arith}
use Rattle.std.specs.Int.{w32, w64}
use Rattle.std.proofs.lemmas.Int.{to_z-of_z}
use Rattle.wa_base.specs.Numbers as numbers
use Rattle.param_events.specs.Lines.{IsPartOf}
use Rattle.param_events.proofs.Euclid.{along_fits}
use Rattle.param_events.proofs.lines.along.Goals as goal

wide : (c : goal.After-share) → FitsSigned w64 c.args.from
wide c = search rules

part : (c : goal.After-share) → FitsSigned w64 c.share.result
part c = search rules

raised : (c : goal.After-share) → c.rise.result ≡ c.args.to -ℤ c.args.from
raised c = simp (to_z-of_z _ _ c.ranges.from, to_z-of_z _ _ c.ranges.to) at c.rise.ensures

rise_fits : (c : goal.After-share) → FitsSigned w64 c.rise.result
rise_fits c = search rules

fits : (c : goal.After-share) → FitsSigned w32 (c.args.from +ℤ c.share.result)
fits c =
    let p = simp (to_z-of_z _ _ (rise_fits c)) at c.share.ensures.part in
    along_fits c.args.from c.args.to c.share.result c.ranges.from c.ranges.to (subst (λ z. IsPartOf z c.share.result) (raised c) p)

sum : (c : goal.After-share) → FitsSigned w64 (c.args.from +ℤ c.share.result)
sum c = let f = fits c in record { sfits = omega (arith, f.sfits) }

pub overflow_add-result : goal.overflow_add-result
overflow_add-result c = simp (to_z-of_z _ _ c.ranges.from, to_z-of_z _ _ (wide c), to_z-of_z _ _ (part c)) (sum c)

pub overflow_cast-result-2 : goal.overflow_cast-result-2
overflow_cast-result-2 c = simp (to_z-of_z _ _ c.ranges.from, to_z-of_z _ _ (wide c), to_z-of_z _ _ (part c), to_z-of_z _ _ (sum c)) (fits c)

pub returns : goal.returns
returns c =
    simp (to_z-of_z _ _ c.ranges.from, to_z-of_z _ _ (wide c), to_z-of_z _ _ (part c), to_z-of_z _ _ (sum c), to_z-of_z _ _ (fits c))
    (ap (λ r. c.args.from +ℤ r) (c.share.ensures.value ∙ ap (λ x. numbers.rnd (x *ℤ pos c.args.n) (pos c.args.frames)) (to_z-of_z _ _ (rise_fits c) ∙ raised c)))
