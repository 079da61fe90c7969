use Rattle.std.proofs.Common.{◌∙◌, sym, ap, arith, ◌≡◌, ◌<◌, ◌*◌, subst}
use Rattle.wa_base.specs.Numbers.{sat}
use Rattle.mix_rules.specs.Blocks.{sample}
use Rattle.quantum_blocks.specs.Blocks.{BlockView}
use Rattle.quantum_blocks.proofs.Holding.{steady_is, moving_is}
use Rattle.quantum_blocks.proofs.Lanes.{at_least_rows}
use Rattle.quantum_blocks.proofs.block.Block.saturate.Goals as goal

pub returns-in-Some-clause-values : goal.returns-in-Some-clause-values
returns-in-Some-clause-values c channel m low now =
    let room = c.self.invariant.room in
    let fits = rw (← c.self.view_is) at c.requires.room in
    let begun : 0 < c.self.inside.frames = let size = c.self.invariant.size.low in omega (arith, size) in
    let now' : m < c.self.inside.frames = subst (λ (b : BlockView). m < b.frames) (sym c.self.view_is) now in
    let least = at_least_rows c.self.inside.frames c.count-self-inside.result begun in
    let same = c.count-self-inside.ensures.count in
    let rows : c.count-self-inside.result * c.self.inside.frames ≡ c.args.sums.now.count * c.self.inside.frames = ap (λ k. k * c.self.inside.frames) same in
    let held = c.in-Some.ensures in
    let long = held.0 in
    let made = c.sat_into.ensures.length in
    steady_is _ c.count-self-inside.result _ c.sat_into.new.out _ _ channel m (omega arith) now' (omega arith) (omega (arith, least, rows, fits, room))
    ∙ c.sat_into.ensures.values channel (omega arith)
    ∙ ap sat (sym (held.2 channel m low (subst (λ k. m < k) (sym c.requires.frames) now)))

pub returns-in-None-clause-values : goal.returns-in-None-clause-values
returns-in-None-clause-values c channel m low now =
    let room = c.self.invariant.room in
    let fits = rw (← c.self.view_is) at c.requires.room in
    let now' : m < c.self.inside.frames = subst (λ (b : BlockView). m < b.frames) (sym c.self.view_is) now in
    let same = c.count-self-inside.ensures.count in
    let rows : c.count-self-inside.result * c.self.inside.frames ≡ c.args.sums.now.count * c.self.inside.frames = ap (λ k. k * c.self.inside.frames) same in
    let frames : c.args.sums.now.frames ≡ c.self.inside.frames = c.requires.frames ∙ ap (λ (b : BlockView). b.frames) (sym c.self.view_is) in
    let made = c.settle.ensures.length in
    moving_is c.self.inside.frames c.count-self-inside.result _ c.settle.new.values _ _ channel m (omega arith) now' (omega arith) (omega (arith, rows, fits, room))
    ∙ ap (λ k. sample k c.settle.new.values channel m) (sym frames)
    ∙ c.settle.ensures.values channel m low (subst (λ k. m < k) (sym c.requires.frames) now)
