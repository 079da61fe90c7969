use Rattle.std.proofs.Common.{rules, ◌≡◌, ◌*ℤ◌, ◌+ℤ◌, ◌-ℤ◌, pos, to_z, of_z, FitsSigned, ap, ◌∙◌, arith}
use Rattle.std.specs.Int.{w32, w64}
use Rattle.std.proofs.lemmas.Int.{to_z-of_z}
use Rattle.wa_base.specs.Numbers.{rnd}
use Rattle.node_table.specs.Curves.{between}
use Rattle.node_table.proofs.Shares.{between_fits}
use Rattle.shaper_iir.proofs.curves.between.Goals as goal

fits : (c : goal.After-share) → FitsSigned w32 (between c.args.from c.args.to c.args.part 33554432)
fits c = between_fits c.args.from c.args.to c.args.part c.ranges.from c.ranges.to c.requires

start : (c : goal.After-share) → c.from.result ≡ c.args.from
start c = c.from.ensures ∙ to_z-of_z _ _ c.ranges.from

shared : (c : goal.After-share) → c.share.result ≡ rnd ((c.args.to -ℤ c.args.from) *ℤ pos c.args.part) (pos 33554432)
shared c =
    let raised : FitsSigned w64 c.rise.result = search rules in
    let whole = simp (to_z-of_z _ _ c.ranges.from, to_z-of_z _ _ c.ranges.to) at c.rise.ensures.value in
    c.share.ensures ∙ ap (λ x. rnd (x *ℤ pos c.args.part) (pos 33554432)) (to_z-of_z _ _ raised ∙ whole)

-- the code's sum is the exact one
sum_is : (c : goal.After-share) → to_z w64 (of_z w64 (to_z w64 (of_z w64 c.from.result) +ℤ to_z w64 (of_z w64 c.share.result))) ≡ between c.args.from c.args.to c.args.part 33554432
sum_is c =
    let from : FitsSigned w64 c.args.from = search rules in
    let share : FitsSigned w64 c.share.result = search rules in
    let f = fits c in
    let sum : FitsSigned w64 (c.args.from +ℤ c.share.result) = rw (shared c) (record { sfits = omega (arith, f.sfits) }) in
    simp (start c, to_z-of_z _ _ from, to_z-of_z _ _ share, to_z-of_z _ _ sum) (ap (λ r. c.args.from +ℤ r) (shared c))

pub overflow_cast-result : goal.overflow_cast-result
overflow_cast-result c = rw (sum_is c) (fits c)

pub returns : goal.returns
returns c = rw (sum_is c) (to_z-of_z _ _ (fits c))
