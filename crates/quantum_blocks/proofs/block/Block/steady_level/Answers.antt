use Rattle.std.proofs.Common.{rules, Bool, pos, slice_index_or, length, ◌<◌, ◌≡◌, ◌+ℤ◌, sym, ◌∙◌, ap, ap₂, arith, subst, FitsSigned}
use Rattle.std.specs.Int.{w32, w64}
use Rattle.std.proofs.lemmas.Int.{to_z-of_z}
use Rattle.std.proofs.lemmas.List.{get_or_default}
use Rattle.wa_base.specs.Numbers.{sat}
use Rattle.quantum_blocks.specs.Blocks.{BlockView, at, lanes_from, lane_at}
use Rattle.quantum_blocks.proofs.Holding.{steady_at}
use Rattle.quantum_blocks.proofs.block.Block.steady_level.Goals as goal

pub returns : goal.returns
returns c m now =
    let held = c.in_ok-held.ensures in
    let fits : FitsSigned w32 c.level_of.result = search rules in
    let level : FitsSigned w32 c.index.result.now = search rules in
    let sum : FitsSigned w64 (slice_index_or c.in_ok-held.held.now 0 (pos 0)) = search rules in
    let lanes : c.self.inside.lanes ≡ 1 = ap (λ (b : BlockView). b.lanes) c.self.view_is ∙ c.requires.mono in
    let room = c.self.invariant.room in
    let size = c.self.invariant.size.low in
    let now' : m < c.self.inside.frames = subst (λ (b : BlockView). m < b.frames) (sym c.self.view_is) now in
    let some : 0 < length c.self.inside.values.items = search rules in
    let was : at c.args.self.now 0 m ≡ c.index.result.now =
    ap (λ (b : BlockView). at b 0 m) (sym c.self.view_is)
    ∙ ap (λ (b : Bool). lane_at (lanes_from c.self.inside.frames b c.self.inside.lanes c.self.inside.values.items) 0 m) c.if-not-self.false
    ∙ steady_at c.self.inside.frames c.self.inside.lanes c.self.inside.values.items 0 m (omega (arith, lanes)) now'
    ∙ get_or_default c.self.inside.values.items 0 (pos 0) c.index.result.now some ∙ sym c.index.ensures in
    to_z-of_z _ _ fits
    ∙ c.level_of.ensures
    ∙ ap₂ (λ v x. sat (v +ℤ sat x)) (to_z-of_z _ _ level ∙ sym was) (to_z-of_z _ _ sum ∙ sym (held.2 0 m (omega arith) (subst (λ n. m < n) (sym c.requires.frames) now)))
