use Rattle.std.proofs.Common.{ℕ, ℤ, List, ◌≡◌, ◌+◌, ◌-◌, ◌*◌, ◌<◌, length, take, drop, sym, ◌∙◌, ap, arith, subst}
use Rattle.std.specs.Vec.{vec_len}
use Rattle.std.proofs.lemmas.List.{length-take-le}
use Rattle.law_base.proofs.Rows.{place_in}
use Rattle.mix_rules.specs.Blocks.{sample}
use Rattle.quantum_blocks.specs.Blocks.{BlockView, at}
use Rattle.channel_mix.proofs.Made.{front_of}
use Rattle.quantum_blocks.proofs.Lanes.{moving_own, moving_others, next_lane_length, unfolded_or_not}
use Rattle.quantum_blocks.proofs.block.Block.set_moving.Goals as goal

pub returns-clause-others : goal.returns-clause-others
returns-clause-others c l m there other now =
    let n : ℕ = c.self.inside.lanes in
    let q : ℕ = c.self.inside.frames in
    let now' : m < q = subst (λ (b : BlockView). m < b.frames) (sym c.self.view_is) now in
    let items : List ℤ = c.self.inside.values.items in
    let low = rw (← c.self.view_is) at c.requires.lane in
    let there' : l < n = subst (λ (b : BlockView). l < b.lanes) (sym c.self.view_is) there in
    let room = c.self.invariant.room in
    let whole = c.deref_mut-2.ensures.len in
    let begun : 0 < q = let size = c.self.invariant.size.low in omega (arith, size) in
    let all : n * q - 0 ≡ n * q = omega arith in
    let front : length (take (n * q - 0) c.deref_mut.result.now) ≡ n * q = length-take-le (n * q - 0) c.deref_mut.result.now (let l = c.deref_mut.ensures.len in omega (arith, l, room, all)) ∙ all in
    let place = place_in q l n m there' now' in
    let unfolded : length c.unfold_if.new.values ≡ n * q = c.unfold_if.ensures.length ∙ front in
    let part : length (take ((c.args.lane + 1) * q - c.args.lane * q) (drop (c.args.lane * q) c.deref_mut-2.result.now)) ≡ q = next_lane_length q n c.args.lane c.deref_mut-2.result.now (omega (arith, whole, room)) low in
    let long = c.copy_values.ensures.length in
    moving_others q n (vec_len c.self.inside.values) c.deref_mut-2.result.now c.args.lane low (omega (arith, whole, room)) room c.copy_values.new.block _ m now' (long ∙ part) l there' other
    ∙ ap (λ (xs : List ℤ). sample q xs l m) c.deref_mut-2.ensures.value
    ∙ front_of (vec_len c.self.inside.values) c.unfold_if.new.values _ _ (l * q + m) (omega (arith, unfolded, place)) (omega (arith, place, room))
    ∙ unfolded_or_not q c.self.inside.steady n items (take (n * q - 0) c.deref_mut.result.now) c.unfold_if.new.values begun
    (ap (λ (xs : List ℤ). take (n * q - 0) xs) c.deref_mut.ensures.value ∙ ap (λ k. take k items) all)
    (omega (arith, room)) c.unfold_if.ensures.stay c.unfold_if.ensures.spread l m there' now'
    ∙ ap (λ (b : BlockView). at b l m) c.self.view_is

pub returns-clause-own : goal.returns-clause-own
returns-clause-own c m now =
    let n : ℕ = c.self.inside.lanes in
    let q : ℕ = c.self.inside.frames in
    let now' : m < q = subst (λ (b : BlockView). m < b.frames) (sym c.self.view_is) now in
    let low = rw (← c.self.view_is) at c.requires.lane in
    let room = c.self.invariant.room in
    let whole = c.deref_mut-2.ensures.len in
    let part : length (take ((c.args.lane + 1) * q - c.args.lane * q) (drop (c.args.lane * q) c.deref_mut-2.result.now)) ≡ q = next_lane_length q n c.args.lane c.deref_mut-2.result.now (omega (arith, whole, room)) low in
    let long = c.copy_values.ensures.length in
    moving_own q n (vec_len c.self.inside.values) c.deref_mut-2.result.now c.args.lane low (omega (arith, whole, room)) room c.copy_values.new.block _ m now' (long ∙ part)
    ∙ c.copy_values.ensures.values m (omega (arith, part, now'))
