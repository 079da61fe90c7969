use Rattle.std.proofs.Common.{◌<◌, sym, ◌∙◌, arith, subst}
use Rattle.quantum_blocks.specs.Blocks.{BlockView}
use Rattle.quantum_blocks.proofs.Holding.{moving_is}
use Rattle.quantum_blocks.proofs.block.Block.play.Goals as goal

pub returns-clause-values : goal.returns-clause-values
returns-clause-values c lane m low there now =
    let room = c.self.invariant.room in
    let now' : m < c.self.inside.frames = subst (λ (b : BlockView). m < b.frames) (sym c.self.view_is) now in
    let low' : lane < c.self.inside.lanes = subst (λ (b : BlockView). lane < b.lanes) (sym c.self.view_is) low in
    let long = c.play.ensures.length in
    moving_is _ c.self.inside.lanes _ c.play.new.out _ _ lane m low' now' (omega arith) (omega arith) ∙ c.play.ensures.values lane m low' there now'
