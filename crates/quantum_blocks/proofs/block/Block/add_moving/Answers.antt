use Rattle.std.proofs.Common.{ℤ, List, pos, ◌≡◌, ◌+ℤ◌, length, take, slice_index_or, ◌∙◌, ap, arith, ℕ, ◌<◌, ◌-◌, ◌*◌, sym, subst}
use Rattle.std.proofs.lemmas.List.{length-take-le}
use Rattle.wa_base.specs.Numbers.{sat}
use Rattle.quantum_blocks.specs.Blocks.{BlockView, at}
use Rattle.channel_mix.specs.Sums.{sum_at}
use Rattle.channel_mix.proofs.Made.{front_at}
use Rattle.quantum_blocks.proofs.Holding.{moved, first_is}
use Rattle.quantum_blocks.proofs.block.Block.add_moving.Goals as goal

pub returns-clause-values : goal.returns-clause-values
returns-clause-values c m now =
    let room = c.self.invariant.room in
    let q : ℕ = c.self.inside.frames in
    let begun : 0 < c.self.inside.frames = let size = c.self.invariant.size.low in omega (arith, size) in
    let now' : m < q = subst (λ (b : BlockView). m < b.frames) (sym c.self.view_is) now in
    let one : c.self.inside.lanes ≡ 1 = ap (λ (b : BlockView). b.lanes) c.self.view_is ∙ c.requires.mono in
    let long = c.add_to.ensures.length in
    let items : List ℤ = c.self.inside.values.items in
    let whole = c.deref_mut.ensures.value in
    let rows : c.self.inside.lanes * q ≡ q = ap (λ n. n * q) one ∙ omega arith in
    let all : q - 0 ≡ q = omega arith in
    let old : List ℤ = take (q - 0) c.deref_mut.result.now in
    let is : old ≡ take q items = ap (λ (xs : List ℤ). take (q - 0) xs) whole ∙ ap (λ k. take k items) all in
    let old_long : length old ≡ q = ap length is ∙ length-take-le q items (omega (arith, rows, room)) in
    let again = c.deref_mut-2.ensures.len in
    let part : length (take (q - 0) c.deref_mut-2.result.now) ≡ q = length-take-le (q - 0) c.deref_mut-2.result.now (omega (arith, rows, room, again)) ∙ all in
    let was : slice_index_or c.move_on.new.values m (pos 0) ≡ at c.args.self.now 0 m =
    moved q c.self.inside.steady c.self.inside.lanes items old c.move_on.new.values one is old_long c.move_on.ensures.stay c.move_on.ensures.spread m now' ∙ ap (λ (b : BlockView). at b 0 m) c.self.view_is in
    first_is q c.self.inside.lanes _ c.add_to.new.levels _ _ m one now' (long ∙ part) (omega (arith, rows, room))
    ∙ c.add_to.ensures.values m (omega (arith, part, now'))
    ∙ ap (λ x. sat (x +ℤ sat (sum_at c.args.sums.now 0 m)))
    (ap (λ (xs : List ℤ). slice_index_or (take (q - 0) xs) m (pos 0)) c.deref_mut-2.ensures.value
    ∙ front_at (q - 0) _ c.move_on.new.values _ _ m (c.move_on.ensures.length ∙ old_long ∙ sym all) (omega (arith, rows, room))
    ∙ was)
