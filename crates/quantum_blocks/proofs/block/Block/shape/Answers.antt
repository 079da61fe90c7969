use Rattle.std.proofs.Common.{◌*◌, ◌+◌, ◌∷◌, [], sym, ◌∙◌, ap, arith, ◌≡◌, ◌<◌, subst, slice_index_or, pos}
use Rattle.node_table.specs.Curves.{shaper_value}
use Rattle.law_base.proofs.Rows.{place_in}
use Rattle.quantum_blocks.specs.Blocks.{BlockView}
use Rattle.quantum_blocks.proofs.Holding.{steady_is, moving_is}
use Rattle.quantum_blocks.proofs.Lanes.{at_least_rows}
use Rattle.quantum_blocks.proofs.block.Block.shape.Goals as goal

pub returns-in-Steady-clause-values : goal.returns-in-Steady-clause-values
returns-in-Steady-clause-values c channel m low now =
    let room = c.self.invariant.room in
    let fits = rw (← c.self.view_is) at c.requires.room in
    let begun : 0 < c.self.inside.frames = let size = c.self.invariant.size.low in omega (arith, size) in
    let now' : m < c.self.inside.frames = subst (λ (b : BlockView). m < b.frames) (sym c.self.view_is) now in
    let least = at_least_rows c.self.inside.frames c.lanes-self-inside.result begun in
    let same = c.lanes-self-inside.ensures.lanes in
    let rows : c.lanes-self-inside.result * c.self.inside.frames ≡ c.args.other.now.lanes * c.self.inside.frames = ap (λ k. k * c.self.inside.frames) same in
    let heard : m < c.args.other.now.frames = subst (λ k. m < k) (sym c.requires.frames) now in
    let held = c.in-Steady.ensures in
    let long = held.0 in
    let made = c.shape_all.ensures.length in
    steady_is _ c.lanes-self-inside.result _ c.shape_all.new.y _ _ channel m (omega arith) now' (omega arith) (omega (arith, least, rows, fits, room))
    ∙ c.shape_all.ensures.values channel (omega arith)
    ∙ ap (λ x. shaper_value c.args.curve.now (x ∷ [])) (sym (held.1 channel m low heard))

pub returns-in-Moving-clause-values : goal.returns-in-Moving-clause-values
returns-in-Moving-clause-values c channel m low now =
    let room = c.self.invariant.room in
    let fits = rw (← c.self.view_is) at c.requires.room in
    let now' : m < c.self.inside.frames = subst (λ (b : BlockView). m < b.frames) (sym c.self.view_is) now in
    let same = c.lanes-self-inside.ensures.lanes in
    let rows : c.lanes-self-inside.result * c.self.inside.frames ≡ c.args.other.now.lanes * c.self.inside.frames = ap (λ k. k * c.self.inside.frames) same in
    let heard : m < c.args.other.now.frames = subst (λ k. m < k) (sym c.requires.frames) now in
    let frames : c.args.other.now.frames ≡ c.self.inside.frames = c.requires.frames ∙ ap (λ (b : BlockView). b.frames) (sym c.self.view_is) in
    let place = place_in c.self.inside.frames channel c.args.other.now.lanes m low now' in
    let held = c.in-Moving.ensures in
    let long = held.0 ∙ ap (λ k. c.args.other.now.lanes * k) frames in
    let made = c.shape_all-in-Moving.ensures.length in
    moving_is c.self.inside.frames c.lanes-self-inside.result _ c.shape_all-in-Moving.new.y _ _ channel m (omega arith) now' (omega (arith, made, long, rows, fits, room)) (omega (arith, rows, fits, room))
    ∙ c.shape_all-in-Moving.ensures.values (channel * c.self.inside.frames + m) (omega (arith, made, long, rows, fits, room, place))
    ∙ ap (λ x. shaper_value c.args.curve.now (x ∷ [])) (ap (λ k. slice_index_or c.in-Moving.values.now (channel * k + m) (pos 0)) (sym frames) ∙ sym (held.1 channel m low heard))
