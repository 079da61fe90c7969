use Rattle.std.proofs.Common.{rules, ◌<◌, ◌≡◌, length, pos, sym, ◌∙◌, ap, arith, FitsSigned}
use Rattle.std.specs.Int.{w32}
use Rattle.std.proofs.lemmas.Int.{to_z-of_z}
use Rattle.std.proofs.lemmas.List.{get_or_default}
use Rattle.quantum_blocks.specs.Blocks.{BlockView, at}
use Rattle.quantum_blocks.proofs.Holding.{first_value}
use Rattle.quantum_blocks.proofs.block.Block.hold_first.Goals as goal

pub returns-clause-values : goal.returns-clause-values
returns-clause-values c m now =
    let value : FitsSigned w32 c.index-value.result.now = search rules in
    let lanes : c.self.inside.lanes ≡ 1 = ap (λ (b : BlockView). b.lanes) c.self.view_is ∙ c.requires.mono in
    let room = c.self.invariant.room in
    let begun : 0 < c.self.inside.frames = let size = c.self.invariant.size.low in omega (arith, size) in
    let some : 0 < length c.self.inside.values.items = search rules in
    c.hold.ensures.values m now
    ∙ to_z-of_z _ _ value
    ∙ c.index-value.ensures
    ∙ sym (get_or_default c.self.inside.values.items 0 (pos 0) c.index-value.result.now some)
    ∙ sym (first_value c.self.inside.frames c.self.inside.steady c.self.inside.lanes c.self.inside.values.items begun (omega (arith, lanes)))
    ∙ ap (λ (b : BlockView). at b 0 0) c.self.view_is
