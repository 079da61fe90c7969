use Rattle.std.proofs.Common.{rules, Bool, pos, length, ◌<◌, ◌≡◌, sym, ◌∙◌, ap, arith, subst, FitsSigned}
use Rattle.std.specs.Int.{w32}
use Rattle.std.proofs.lemmas.Int.{to_z-of_z}
use Rattle.std.proofs.lemmas.List.{get_or_default}
use Rattle.quantum_blocks.specs.Blocks.{BlockView, at, lanes_from, lane_at}
use Rattle.quantum_blocks.proofs.Holding.{steady_at}
use Rattle.quantum_blocks.proofs.block.Block.steady_value.Goals as goal

pub returns-then-self : goal.returns-then-self
returns-then-self c m now =
    let value : FitsSigned w32 c.index.result.now = search rules in
    let lanes : c.self.inside.lanes ≡ 1 = ap (λ (b : BlockView). b.lanes) c.self.view_is ∙ c.requires in
    let room = c.self.invariant.room in
    let size = c.self.invariant.size.low in
    let now' : m < c.self.inside.frames = subst (λ (b : BlockView). m < b.frames) (sym c.self.view_is) now in
    let some : 0 < length c.self.inside.values.items = search rules in
    to_z-of_z _ _ value
    ∙ c.index.ensures
    ∙ sym (get_or_default c.self.inside.values.items 0 (pos 0) c.index.result.now some)
    ∙ sym (steady_at c.self.inside.frames c.self.inside.lanes c.self.inside.values.items 0 m (omega (arith, lanes)) now')
    ∙ sym (ap (λ (b : Bool). lane_at (lanes_from c.self.inside.frames b c.self.inside.lanes c.self.inside.values.items) 0 m) c.if-self.true)
    ∙ ap (λ (b : BlockView). at b 0 m) c.self.view_is
