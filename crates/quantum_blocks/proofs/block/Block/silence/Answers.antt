use Rattle.std.proofs.Common.{◌<◌, sym, ◌∙◌, arith, subst}
use Rattle.quantum_blocks.specs.Blocks.{BlockView}
use Rattle.quantum_blocks.proofs.Holding.{steady_is}
use Rattle.quantum_blocks.proofs.Lanes.{at_least_rows}
use Rattle.quantum_blocks.proofs.block.Block.silence.Goals as goal

pub returns-clause-values : goal.returns-clause-values
returns-clause-values c channel m low now =
    let room = c.self.invariant.room in
    let begun : 0 < c.self.inside.frames = let size = c.self.invariant.size.low in omega (arith, size) in
    let now' : m < c.self.inside.frames = subst (λ (b : BlockView). m < b.frames) (sym c.self.view_is) now in
    let least = at_least_rows c.self.inside.frames c.self.inside.lanes begun in
    let long = c.fill.ensures.length in
    let low' : channel < c.self.inside.lanes = subst (λ (b : BlockView). channel < b.lanes) (sym c.self.view_is) low in
    steady_is _ c.self.inside.lanes _ c.fill.new.block _ _ channel m low' now' (omega arith) (omega arith) ∙ c.fill.ensures.values channel (omega arith)
