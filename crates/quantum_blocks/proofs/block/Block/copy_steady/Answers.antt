use Rattle.std.proofs.Common.{length, ◌<◌, sym, ◌∙◌, arith, subst}
use Rattle.quantum_blocks.specs.Blocks.{BlockView}
use Rattle.quantum_blocks.proofs.Holding.{steady_is}
use Rattle.quantum_blocks.proofs.Lanes.{at_least_rows}
use Rattle.quantum_blocks.proofs.block.Block.copy_steady.Goals as goal

pub returns-clause-values : goal.returns-clause-values
returns-clause-values c lane m low now =
    let room = c.self.invariant.room in
    let begun : 0 < c.self.inside.frames = let size = c.self.invariant.size.low in omega (arith, size) in
    let now' : m < c.self.inside.frames = subst (λ (b : BlockView). m < b.frames) (sym c.self.view_is) now in
    let least = at_least_rows c.self.inside.frames (length c.args.held.now) begun in
    let fits = rw (← c.self.view_is) at c.requires.room in
    let copied = c.copy_values.ensures.length in
    steady_is _ (length c.args.held.now) _ c.copy_values.new.block _ _ lane m low now' (omega arith) (omega arith)
    ∙ c.copy_values.ensures.values lane (omega arith)
