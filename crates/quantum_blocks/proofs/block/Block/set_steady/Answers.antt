use Rattle.std.proofs.Common.{ℤ, List, rules, ◌+◌, ◌-◌, ◌*◌, ◌<◌, length, ◌≡◌, ◌++◌, slice_set, take, drop, sym, ◌∙◌, ap, arith, subst, FitsSigned, to_z, of_z, ℕ}
use Rattle.std.specs.Vec.{vec_len}
use borrow.Rule.Slice.PartMut.{put_mid}
use Rattle.std.specs.Int.{w32}
use Rattle.std.proofs.lemmas.Int.{to_z-of_z}
use Rattle.mix_rules.specs.Blocks.{sample}
use Rattle.quantum_blocks.specs.Blocks.{BlockView, at, lanes_from, lane_at}
use Rattle.quantum_blocks.proofs.Holding.{moving_at}
use Rattle.quantum_blocks.proofs.Lanes.{steady_own, steady_others, moving_own, moving_others, next_lane_length}
use Rattle.quantum_blocks.proofs.block.Block.set_steady.Goals as goal

pub returns-then-self-clause-own : goal.returns-then-self-clause-own
returns-then-self-clause-own c m now =
    let fits : FitsSigned w32 c.args.value = search rules in
    let low = rw (← c.self.view_is) at c.requires.lane in
    let q : ℕ = c.self.inside.frames in
    let begun : 0 < q = let size = c.self.invariant.size.low in omega (arith, size) in
    let now' : m < q = subst (λ (b : BlockView). m < b.frames) (sym c.self.view_is) now in
    ap (λ s. lane_at (lanes_from q s c.self.inside.lanes (slice_set c.self.inside.values.items c.args.lane (to_z w32 (of_z w32 c.args.value)))) c.args.lane m) c.if-self.true
    ∙ steady_own q c.self.inside.lanes c.self.inside.values.items c.args.lane begun low (let room = c.self.invariant.room in omega arith) _ m now'
    ∙ to_z-of_z _ _ fits

pub returns-then-self-clause-others : goal.returns-then-self-clause-others
returns-then-self-clause-others c l m there other now =
    let low = rw (← c.self.view_is) at c.requires.lane in
    let q : ℕ = c.self.inside.frames in
    let begun : 0 < q = let size = c.self.invariant.size.low in omega (arith, size) in
    let now' : m < q = subst (λ (b : BlockView). m < b.frames) (sym c.self.view_is) now in
    let there' : l < c.self.inside.lanes = subst (λ (b : BlockView). l < b.lanes) (sym c.self.view_is) there in
    ap (λ s. lane_at (lanes_from q s c.self.inside.lanes (slice_set c.self.inside.values.items c.args.lane (to_z w32 (of_z w32 c.args.value)))) l m) c.if-self.true
    ∙ steady_others q c.self.inside.lanes c.self.inside.values.items c.args.lane begun low (let room = c.self.invariant.room in omega arith) _ l m there' other now'
    ∙ sym (ap (λ s. lane_at (lanes_from q s c.self.inside.lanes c.self.inside.values.items) l m) c.if-self.true)
    ∙ ap (λ (b : BlockView). at b l m) c.self.view_is

pub returns-else-self-clause-own : goal.returns-else-self-clause-own
returns-else-self-clause-own c m now =
    let fits : FitsSigned w32 c.args.value = search rules in
    let low = rw (← c.self.view_is) at c.requires.lane in
    let q : ℕ = c.self.inside.frames in
    let now' : m < q = subst (λ (b : BlockView). m < b.frames) (sym c.self.view_is) now in
    let room = c.self.invariant.room in
    let whole = c.deref_mut.ensures.len in
    let part : length (take ((c.args.lane + 1) * q - c.args.lane * q) (drop (c.args.lane * q) c.deref_mut.result.now)) ≡ q = next_lane_length q c.self.inside.lanes c.args.lane c.deref_mut.result.now (omega (arith, whole, room)) low in
    let long = c.fill.ensures.length in
    let written : List ℤ = put_mid (c.args.lane * q) ((c.args.lane + 1) * q - c.args.lane * q) c.deref_mut.result.now c.fill.new.block in
    ap (λ s. lane_at (lanes_from q s c.self.inside.lanes (take (vec_len c.self.inside.values) (written ++ drop (length written) c.self.inside.values.items))) c.args.lane m) c.if-self.false
    ∙ moving_own q c.self.inside.lanes (vec_len c.self.inside.values) c.deref_mut.result.now c.args.lane low (omega (arith, whole, room)) room c.fill.new.block (drop (length written) c.self.inside.values.items) m now' (long ∙ part)
    ∙ c.fill.ensures.values m (omega (arith, part, now'))
    ∙ to_z-of_z _ _ fits

pub returns-else-self-clause-others : goal.returns-else-self-clause-others
returns-else-self-clause-others c l m there other now =
    let low = rw (← c.self.view_is) at c.requires.lane in
    let q : ℕ = c.self.inside.frames in
    let now' : m < q = subst (λ (b : BlockView). m < b.frames) (sym c.self.view_is) now in
    let there' : l < c.self.inside.lanes = subst (λ (b : BlockView). l < b.lanes) (sym c.self.view_is) there in
    let room = c.self.invariant.room in
    let whole = c.deref_mut.ensures.len in
    let part : length (take ((c.args.lane + 1) * q - c.args.lane * q) (drop (c.args.lane * q) c.deref_mut.result.now)) ≡ q = next_lane_length q c.self.inside.lanes c.args.lane c.deref_mut.result.now (omega (arith, whole, room)) low in
    let long = c.fill.ensures.length in
    let written : List ℤ = put_mid (c.args.lane * q) ((c.args.lane + 1) * q - c.args.lane * q) c.deref_mut.result.now c.fill.new.block in
    ap (λ s. lane_at (lanes_from q s c.self.inside.lanes (take (vec_len c.self.inside.values) (written ++ drop (length written) c.self.inside.values.items))) l m) c.if-self.false
    ∙ moving_others q c.self.inside.lanes (vec_len c.self.inside.values) c.deref_mut.result.now c.args.lane low (omega (arith, whole, room)) room c.fill.new.block (drop (length written) c.self.inside.values.items) m now' (long ∙ part) l there' other
    ∙ ap (λ (xs : List ℤ). sample q xs l m) c.deref_mut.ensures.value
    ∙ sym (moving_at q c.self.inside.lanes c.self.inside.values.items l m there' now')
    ∙ sym (ap (λ s. lane_at (lanes_from q s c.self.inside.lanes c.self.inside.values.items) l m) c.if-self.false)
    ∙ ap (λ (b : BlockView). at b l m) c.self.view_is
