use Rattle.std.proofs.Common.{rules, FitsSigned}
use Rattle.std.specs.Int.{w64}
use Rattle.std.proofs.lemmas.Int.{to_z-of_z}
use Rattle.param_cursor.proofs.Laning.{way_fits, way_past_fits, way_is, way_past_is}
use Rattle.param_cursor.proofs.slope.way.Goals as goal

pub returns-then-from-to-clause-parts : goal.returns-then-from-to-clause-parts
returns-then-from-to-clause-parts c =
    let f : FitsSigned w64 c.args.from.0 = search rules in
    let t : FitsSigned w64 c.args.to.0 = search rules in
    let way = way_fits c.args.from.0 c.args.to.0 c.requires.small c.requires.near in
    simp (to_z-of_z _ _ f, to_z-of_z _ _ t, to_z-of_z _ _ way) (way_is c.args.from.0 c.args.to.0 c.args.from.1 c.args.to.1 c.args.divisor c.if-from-to.true)

pub returns-else-from-to-clause-parts : goal.returns-else-from-to-clause-parts
returns-else-from-to-clause-parts c =
    let f : FitsSigned w64 c.args.from.0 = search rules in
    let t : FitsSigned w64 c.args.to.0 = search rules in
    let way = way_fits c.args.from.0 c.args.to.0 c.requires.small c.requires.near in
    let past = way_past_fits c.args.from.0 c.args.to.0 c.requires.small c.requires.near in
    simp (to_z-of_z _ _ f, to_z-of_z _ _ t, to_z-of_z _ _ way, to_z-of_z _ _ past) (way_past_is c.args.from.0 c.args.to.0 c.args.from.1 c.args.to.1 c.args.divisor c.requires.from)
