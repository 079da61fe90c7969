use Rattle.std.proofs.Common.{rules, refl, ◌∙◌, ap₂, FitsSigned}
use Rattle.std.specs.Int.{w32}
use Rattle.std.proofs.lemmas.Int.{to_z-of_z}
use Rattle.meaning.specs.World.{up_to}
use Rattle.quantum_blocks.proofs.block.Block.up_to.Goals as goal

pub returns-in-Some-clause-values : goal.returns-in-Some-clause-values
returns-in-Some-clause-values c m now =
    let clamped : FitsSigned w32 c.up_to.result = search rules in
    let most : FitsSigned w32 c.args.most = search rules in
    let value : FitsSigned w32 c.in-Some.value = search rules in
    c.hold.ensures.values m now ∙ to_z-of_z _ _ clamped ∙ c.up_to.ensures ∙ ap₂ up_to (to_z-of_z _ _ most) (to_z-of_z _ _ value ∙ c.in-Some.ensures m now)

pub returns-in-None-clause-values : goal.returns-in-None-clause-values
returns-in-None-clause-values c m now =
    let most : FitsSigned w32 c.args.most = search rules in
    c.up_to_moving.ensures.values m now ∙ ap₂ up_to (to_z-of_z _ _ most) refl
