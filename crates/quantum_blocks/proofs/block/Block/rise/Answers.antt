use Rattle.std.proofs.Common.{◌<◌, ◌∙◌, refl, sym, arith, subst}
use Rattle.quantum_blocks.specs.Blocks.{BlockView}
use Rattle.quantum_blocks.proofs.Holding.{first_is}
use Rattle.quantum_blocks.proofs.block.Block.rise.Goals as goal

pub returns-clause-values : goal.returns-clause-values
returns-clause-values c m now =
    let now' : m < c.self.inside.frames = subst (λ (b : BlockView). m < b.frames) (sym c.self.view_is) now in
    let wide = rw (← c.self.view_is) at c.requires.room in
    first_is _ 1 _ c.write.new.out _ _ m refl now' (omega arith) (omega arith) ∙ c.write.ensures.values m (omega arith)
