use Rattle.std.proofs.Common.{rules, ◌<◌, sym, ◌∙◌, arith, subst, FitsSigned}
use Rattle.std.specs.Int.{w32}
use Rattle.std.proofs.lemmas.Int.{to_z-of_z}
use Rattle.quantum_blocks.specs.Blocks.{BlockView}
use Rattle.quantum_blocks.proofs.Holding.{steady_is}
use Rattle.quantum_blocks.proofs.block.Block.hold.Goals as goal

pub returns-clause-values : goal.returns-clause-values
returns-clause-values c m now =
    let room = c.self.invariant.room in
    let size = c.self.invariant.size.low in
    let now' : m < c.self.inside.frames = subst (λ (b : BlockView). m < b.frames) (sym c.self.view_is) now in
    let wide = rw (← c.self.view_is) at c.requires in
    let long = c.fill.ensures.length in
    let fits : FitsSigned w32 c.args.value = search rules in
    steady_is _ 1 _ c.fill.new.block _ _ 0 m (omega arith) now' (omega arith) (omega arith) ∙ c.fill.ensures.values 0 (omega arith) ∙ to_z-of_z _ _ fits
