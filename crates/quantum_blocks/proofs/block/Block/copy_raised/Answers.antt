use Rattle.std.proofs.Common.{ℕ, pos, ◌≡◌, ◌<◌, ◌+ℤ◌, length, slice_index_or, sym, ◌∙◌, ap, arith, subst}
use Rattle.wa_base.specs.Numbers.{sat}
use Rattle.mix_rules.specs.Blocks.{sample}
use Rattle.quantum_blocks.specs.Blocks.{BlockView}
use Rattle.quantum_blocks.proofs.Holding.{moving_is}
use Rattle.quantum_blocks.proofs.block.Block.copy_raised.Goals as goal

pub returns-clause-values : goal.returns-clause-values
returns-clause-values c lane m low now =
    let q : ℕ = c.self.inside.frames in
    let n : ℕ = length c.args.held.now in
    let room = c.self.invariant.room in
    let now' : m < q = subst (λ (b : BlockView). m < b.frames) (sym c.self.view_is) now in
    let fits = rw (← c.self.view_is) at c.requires.room in
    let raised = c.raise_channels.ensures.length in
    let frames : c.args.self.now.frames ≡ q = ap (λ (b : BlockView). b.frames) (sym c.self.view_is) in
    moving_is q n _ c.raise_channels.new.block _ _ lane m low now' (omega (arith, raised, fits, room)) (omega (arith, fits, room))
    ∙ c.raise_channels.ensures.values lane m low now'
    ∙ ap (λ k. sat (sample k c.args.heard.now lane m +ℤ slice_index_or c.args.held.now lane (pos 0))) (sym frames)
