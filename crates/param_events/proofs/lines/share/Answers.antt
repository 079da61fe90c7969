use Rattle.std.proofs.Common.{rules, ◌≡◌, ◌*ℤ◌, pos, FitsSigned, to_z, of_z, ap, ◌∙◌, subst, sym, arith}
use Rattle.std.specs.Int.{w64, w128}
use Rattle.std.proofs.lemmas.Int.{to_z-of_z, ints}
use Rattle.wa_base.specs.Numbers as numbers
use Rattle.param_events.specs.Lines.{IsPartOf}
use Rattle.param_events.proofs.Euclid.{share_part, part_fits}
use Rattle.param_events.proofs.lines.share.Goals as goal

product : (c : goal.After-times) → FitsSigned w128 c.times.result
product c = search rules

pub rnd_div-requires-clause-num_low : goal.rnd_div-requires-clause-num_low
rnd_div-requires-clause-num_low c = let b = c.times.ensures.bound in simp (to_z-of_z _ _ (product c)) (omega (arith, ints))

pub rnd_div-requires-clause-num_high : goal.rnd_div-requires-clause-num_high
rnd_div-requires-clause-num_high c = let b = c.times.ensures.bound in simp (to_z-of_z _ _ (product c)) (omega (arith, ints))

value : (c : goal.After-rnd_div) → c.rnd_div.result ≡ numbers.rnd (c.args.rise *ℤ pos c.args.n) (pos c.args.frames)
value c =
    let p : FitsSigned w128 c.times.result = search rules in
    let e = simp (to_z-of_z _ _ c.ranges.rise) at c.times.ensures.value in
    let d : to_z w128 c.args.frames ≡ pos c.args.frames = search rules in
    c.rnd_div.ensures ∙ ap (λ y. numbers.rnd (to_z w128 (of_z w128 c.times.result)) y) d ∙ ap (λ x. numbers.rnd x (pos c.args.frames)) (to_z-of_z _ _ p ∙ e)

fits : (c : goal.After-rnd_div) → FitsSigned w64 c.rnd_div.result
fits c = part_fits c.args.rise c.rnd_div.result c.ranges.rise (subst (IsPartOf c.args.rise) (sym (value c)) (share_part c.args.rise c.args.n c.args.frames c.requires.lasts c.requires.within))

read : (c : goal.After-rnd_div) → FitsSigned w128 c.rnd_div.result
read c = search rules

pub overflow_cast-result : goal.overflow_cast-result
overflow_cast-result c = simp (to_z-of_z _ _ (read c)) (fits c)

pub returns : goal.returns
returns c = record {
  value = simp (to_z-of_z _ _ (read c), to_z-of_z _ _ (fits c)) (value c);
  part = simp (to_z-of_z _ _ (read c), to_z-of_z _ _ (fits c)) (subst (IsPartOf c.args.rise) (sym (value c)) (share_part c.args.rise c.args.n c.args.frames c.requires.lasts c.requires.within));
}
