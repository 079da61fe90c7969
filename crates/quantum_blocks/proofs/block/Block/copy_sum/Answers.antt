use Rattle.std.proofs.Common.{ℕ, ◌≡◌, ◌<◌, ◌+◌, ◌*◌, ◌+ℤ◌, length, sym, ◌∙◌, ap, arith, subst}
use Rattle.wa_base.specs.Numbers.{sat}
use Rattle.law_base.proofs.Rows.{place_in}
use Rattle.mix_rules.specs.Blocks.{sample}
use Rattle.quantum_blocks.specs.Blocks.{BlockView}
use Rattle.quantum_blocks.proofs.Holding.{moving_is}
use Rattle.quantum_blocks.proofs.block.Block.copy_sum.Goals as goal

pub returns-clause-values : goal.returns-clause-values
returns-clause-values c lane m low now =
    let q : ℕ = c.self.inside.frames in
    let room = c.self.invariant.room in
    let now' : m < q = subst (λ (b : BlockView). m < b.frames) (sym c.self.view_is) now in
    let fits = rw (← c.self.view_is) at c.requires.room in
    let added = c.sum_into.ensures.length in
    let frames : c.args.self.now.frames ≡ q = ap (λ (b : BlockView). b.frames) (sym c.self.view_is) in
    let long : length c.args.first.now ≡ c.args.lanes * q = c.requires.first ∙ ap (λ k. c.args.lanes * k) frames in
    let place = place_in q lane c.args.lanes m low now' in
    moving_is q c.args.lanes _ c.sum_into.new.out _ _ lane m low now' (omega arith) (omega arith)
    ∙ c.sum_into.ensures.values (lane * q + m) (omega arith)
    ∙ ap (λ k. sat (sample k c.args.first.now lane m +ℤ sample k c.args.second.now lane m)) (sym frames)
