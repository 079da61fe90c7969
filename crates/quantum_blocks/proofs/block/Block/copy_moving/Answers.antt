use Rattle.std.proofs.Common.{ℕ, ◌≡◌, ◌<◌, ◌+◌, ◌*◌, length, sym, ◌∙◌, ap, arith, subst, slice_index_or, pos}
use Rattle.law_base.proofs.Rows.{place_in}
use Rattle.quantum_blocks.specs.Blocks.{BlockView}
use Rattle.quantum_blocks.proofs.Holding.{moving_is}
use Rattle.quantum_blocks.proofs.block.Block.copy_moving.Goals as goal

pub returns-clause-values : goal.returns-clause-values
returns-clause-values c lane m low now =
    let q : ℕ = c.self.inside.frames in
    let room = c.self.invariant.room in
    let now' : m < q = subst (λ (b : BlockView). m < b.frames) (sym c.self.view_is) now in
    let fits = rw (← c.self.view_is) at c.requires.room in
    let copied = c.copy_values.ensures.length in
    let frames : c.args.self.now.frames ≡ q = ap (λ (b : BlockView). b.frames) (sym c.self.view_is) in
    let long : length c.args.values.now ≡ c.args.lanes * q = c.requires.length ∙ ap (λ k. c.args.lanes * k) frames in
    let place = place_in q lane c.args.lanes m low now' in
    moving_is q c.args.lanes _ c.copy_values.new.block _ _ lane m low now' (omega arith) (omega arith)
    ∙ c.copy_values.ensures.values (lane * q + m) (omega arith)
    ∙ ap (λ k. slice_index_or c.args.values.now (lane * k + m) (pos 0)) (sym frames)
